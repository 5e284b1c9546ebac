use Rattle.std.proofs.Common.{◌+◌, ◌-◌, arith}
use Rattle.search.proofs.Distinct.{distinct_at}
use Rattle.search.proofs.fits.are_distinct.Goals as goal
use Rattle.std.proofs.lemmas.List.{take_rest}

pub returns-then-has_ticket : goal.returns-then-has_ticket
returns-then-has_ticket c distinct =
    let n = c.loop-place.place - 1 in
    c.if-has_ticket.ensures (distinct_at n c.args.jobs.now _ (omega arith) (take_rest c.args.jobs.now (n + 1)) distinct)
