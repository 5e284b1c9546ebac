-- The rule "faults at least d quarters apart", and what it allows.
use Rattle.std.specs.Prelude.{ℕ, ◌+◌, ◌-◌, ◌≤◌, min, cond, List, [], ◌∷◌, Some, None, ◌==◌}
use Rattle.rules.specs.Model.{Model, capped}
use Rattle.rules.specs.Faults.{Allows}

-- Faults at least d quarters apart: the state s says that the coming quarter is s + 1 after the last fault, cut at d. A rule opens at
-- the distance d, a clean quarter adds 1, a fault is permitted at the distance d only, and after it the distance is 1. Farther is freer.
abbrev pub gap : ℕ → Model
gap d = record {
  size = capped d;
  opening = capped d - 1;
  clean = λ s. min (s + 1) (d - 1);
  spoiled = λ s. cond (s + 1 == d) (Some 0) None;
  Freer = λ s t. t ≤ s;
}

-- neighbours differ by at least d
abbrev pub Spaced : ℕ → List ℕ → Type 0
Spaced d [] = Unit {0}
Spaced d (q ∷ []) = Unit {0}
Spaced d (q ∷ (r ∷ f)) = (q + d ≤ r) × Spaced d (r ∷ f)

-- from 1 to 512, the rule allows exactly the lists whose neighbours differ by at least d
abbrev pub GapAllows : ℕ → Type 0
GapAllows d = 1 ≤ d → d ≤ 512 → Allows (gap d) (Spaced d)
