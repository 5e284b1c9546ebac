-- The table after a search.
use Rattle.std.proofs.Common.{◌≡◌, ℕ, List, ◌++◌, length, drop, replicate, ap, ◌∙◌}
use Rattle.search.specs.Answers.{Swept}

-- the first 16384 numbers were worked in, and then cleared
pub swept : (table work cleared : List ℕ) → length work ≡ 16384 → cleared ≡ replicate (length work) 0 → Swept table (cleared ++ drop 16384 table)
swept table work cleared long zeros = ap (λ l. l ++ drop 16384 table) (zeros ∙ ap (λ n. replicate n 0) long)
