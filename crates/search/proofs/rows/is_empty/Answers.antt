use Rattle.std.proofs.Common.{◌≡◌, ℕ, ◌<◌, length, get_or, rules, arith}
use Rattle.std.proofs.iter.runs.Made.{chains}
use Rattle.search.proofs.EmptyRows.{row_empty}
use Rattle.search.proofs.rows.is_empty.Goals as goal

pub returns : goal.returns
returns c =
    let row = c.args.row.now in (
      λ all.
          (let below : (k : ℕ) → k < length row → get_or row k 0 ≡ 0 = λ k h. search (rules, chains, all) in
          row_empty row (length row) (omega arith) below),
      λ none. search (rules, chains, none),
    )
