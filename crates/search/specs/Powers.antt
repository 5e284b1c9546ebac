-- Many clean quarters at once, by rows of how far 1, 2, 4, .. 64 clean quarters lead.
use Rattle.std.specs.Prelude.{◌≡◌, ℕ, ◌^◌, ◌<◌, List, [], slice_index, slice_index_or}
use Rattle.rules.specs.Model.{Model, cleans}

-- the row has for each state the state after 2 ^ k clean quarters
abbrev pub Leads : Model → ℕ → List ℕ → Type 0
Leads m k row = (s : ℕ) → s < m.size → slice_index row s ≡ cleans m (2 ^ k) s

-- the first n rows are for 1, 2, 4, .. clean quarters
abbrev pub PowersTo : Model → ℕ → List (List ℕ) → Type 0
PowersTo m n rows = (k : ℕ) → k < n → Leads m k (slice_index_or rows k [])

-- the rows are for 1, 2, 4, .. 64 clean quarters
abbrev pub Powers : Model → List (List ℕ) → Type 0
Powers m rows = PowersTo m 7 rows
