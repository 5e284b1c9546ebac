-- Rows that are empty.
use Rattle.std.proofs.Common.{◌≡◌, ℕ, ◌<◌, ◌≤◌, List, length, get_or, ⊎_elim, arith}
use Rattle.std.proofs.lemmas.List.{get_or_past}
use Rattle.std.proofs.lemmas.Bool.{cases_lt}

-- a row whose elements are 0 has 0 past its end too
pub row_empty : (row : List ℕ) (n : ℕ) → length row ≤ n → ((k : ℕ) → k < n → get_or row k 0 ≡ 0) → (s : ℕ) → get_or row s 0 ≡ 0
row_empty row n l below s = ⊎_elim (below s) (λ h. get_or_past row s 0 (omega arith)) (cases_lt s n)
