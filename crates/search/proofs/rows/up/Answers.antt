use Rattle.std.proofs.Common.{◌≡◌, ◌+◌, ◌-◌, arith}
use Rattle.std.proofs.lemmas.List.Edits.{get_or-between, length-between}
use Rattle.search.proofs.rows.up.Goals as goal

pub returns-in_err-ahead : goal.returns-in_err-ahead
returns-in_err-ahead c =
    let row = c.args.row.now in
    let done = c.args.done.now in
    let from = c.args.from in
    let long = length-between row from c.args.states (omega arith) in
    rw c.from_residual.ensures (λ s a b p.
    let k = s - from in
    let there : from + k ≡ s = omega arith in
    let one = get_or-between row from c.args.states k 0 (omega arith) in
    let two = get_or-between done from c.args.states k 0 (omega arith) in
    c.in_err-ahead.ensures k (omega arith) (simp (one, two, there) p))
