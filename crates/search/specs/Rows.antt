-- A row of the worktable has for each state 0, or one more than the latest time.
use Rattle.std.specs.Prelude.{◌≡◌, ℕ, ◌+◌, ◌<◌, ◌≤◌, ◌⊎◌, ◌↔◌, List, slice_index}

-- the row's time for the state s is t
abbrev pub In : List ℕ → ℕ → ℕ → Type 0
In row s t = slice_index row s ≡ t + 1

-- the row has the state s at the time t or later
abbrev pub Covers : List ℕ → ℕ → ℕ → Type 0
Covers row s t = t < slice_index row s

-- the row has no time
abbrev pub Empty : List ℕ → Type 0
Empty row = (s : ℕ) → slice_index row s ≡ 0

-- the row has a later time for the state s than `done` has
abbrev pub Pending : List ℕ → List ℕ → ℕ → Type 0
Pending row done s = slice_index done s < slice_index row s

-- `new` has the times of `old` that are not before r
abbrev pub Since : ℕ → List ℕ → List ℕ → Type 0
Since r old new = (s t : ℕ) → In new s t ↔ (In old s t × (r ≤ t))

-- just this time for this state
abbrev pub KeepsOne : ℕ → ℕ → ℕ → ℕ → Type 0
KeepsOne state time s t = (s ≡ state) × (t ≡ time)

-- `new` is `old` with every state and time of P kept in it, and nothing else.
pub record Grew (P : ℕ → ℕ → Type 0) (old new : List ℕ) : Type 0 where
  -- what the row has it had before, or is in P
  pub sound : (s t : ℕ) → In new s t → In old s t ⊎ P s t
  -- P is covered
  pub covers : (s t : ℕ) → P s t → Covers new s t
  -- nothing became earlier
  pub keeps : (s : ℕ) → slice_index old s ≤ slice_index new s
