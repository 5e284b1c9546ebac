use Rattle.std.proofs.Common.{length, arith}
use Rattle.std.proofs.lemmas.List.{get_or-replicate}
use Rattle.search.proofs.EmptyRows.{row_empty}
use Rattle.search.proofs.rows.clear.Goals as goal

pub returns : goal.returns
returns c =
    let n = length c.args.row.now in
    let zeros = c.fill.ensures.after (λ y e. e) in
    row_empty c.fill.new.self n (omega (arith, c.fill.ensures.len)) (λ k h. rw zeros (get_or-replicate n k 0 0 h))
