-- Lists of faults: what a rule allows, and the same in plain words.
use Rattle.std.specs.Prelude.{◌≡◌, ℕ, ◌-◌, ◌<◌, ◌≤◌, ◌↔◌, List, [], ◌∷◌, Some}
use Rattle.std.specs.List.{AllByRecursion}
use Rattle.rules.specs.Model.{Model, cleans}

-- The faults f are allowed from the clock c on, in the state s there: each is after the one before it and not after quarter 4096,
-- and the rule permits it in the state that the clean quarters before it lead to.
abbrev pub Allowed : Model → ℕ → ℕ → List ℕ → Type 0
Allowed m s c [] = Unit {0}
Allowed m s c (q ∷ f) = (t : ℕ) × (c < q) × (q ≤ 4096) × (m.spoiled (cleans m (q - c - 1) s) ≡ Some t) × Allowed m t q f

-- the faults are strictly increasing, and after the clock c
abbrev pub Increasing : ℕ → List ℕ → Type 0
Increasing c [] = Unit {0}
Increasing c (q ∷ f) = (c < q) × Increasing q f

-- no fault is after quarter 4096
abbrev pub Within : List ℕ → Type 0
Within f = AllByRecursion (λ q. q ≤ 4096) f

-- from its opening state at the clock 0 on, the rule allows exactly the increasing lists up to quarter 4096 that P holds of
abbrev pub Allows : Model → (List ℕ → Type 0) → Type 0
Allows m P = (f : List ℕ) → Allowed m m.opening 0 f ↔ (Increasing 0 f × Within f × P f)
