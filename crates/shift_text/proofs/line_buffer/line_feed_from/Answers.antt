use Rattle.std.proofs.Common.{ap, ◌∙◌}
use Rattle.shift_text.proofs.Keeping.{feeds, first_behind, none_behind}
use Rattle.shift_text.proofs.line_buffer.line_feed_from.Goals as goal
use Rattle.std.proofs.lemmas.List.{take_rest}
use Rattle.std.specs.List.{position}

pub returns-in_err-ahead-clause-first : goal.returns-in_err-ahead-clause-first
returns-in_err-ahead-clause-first c =
    rw c.from_residual.ensures (none_behind c.args.from c.args.chunk.now (c.in_err-ahead.ensures ∙ ap (position feeds) (take_rest c.args.chunk.now c.args.from)))

pub returns-clause-place : goal.returns-clause-place
returns-clause-place c =
    let found = first_behind c.args.from c.in_ok-ahead.ahead c.args.chunk.now (c.in_ok-ahead.ensures ∙ ap (position feeds) (take_rest c.args.chunk.now c.args.from)) in
    (found.0, found.1)

pub returns-clause-first : goal.returns-clause-first
returns-clause-first c =
    (first_behind c.args.from c.in_ok-ahead.ahead c.args.chunk.now (c.in_ok-ahead.ensures ∙ ap (position feeds) (take_rest c.args.chunk.now c.args.from))).2
