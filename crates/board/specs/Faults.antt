-- The faults that a board has seen.
use Rattle.std.specs.Prelude.{◌≡◌, ℕ, ◌-◌, ◌<◌, ◌≤◌, List, [], ◌∷◌, Some}
use Rattle.board.specs.declared.moment.Moment.{Moment}
use Rattle.rules.specs.Model.{Model, cleans}

-- From the state s at the clock c the faults f, each permitted, and clean quarters elsewhere lead to the state t at the clock d.
abbrev pub Leads : Model → ℕ → ℕ → List ℕ → ℕ → ℕ → Type 0
Leads m s c [] d t = (c ≤ d) × (t ≡ cleans m (d - c) s)
Leads m s c (q ∷ f) d t = (u : ℕ) × (c < q) × (q ≤ d) × (m.spoiled (cleans m (q - c - 1) s) ≡ Some u) × Leads m u q f d t

-- The faults f are those from the opening up to the moment w.
abbrev pub Seen : Model → List ℕ → Moment → Type 0
Seen m f w = Leads m m.opening 0 f w.clock w.state
