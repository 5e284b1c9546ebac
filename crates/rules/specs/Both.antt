-- Two rules at once, and what they allow.
use Rattle.std.specs.Prelude.{◌≡◌, ℕ, ◌+◌, ◌*◌, ◌/◌, ◌%◌, ◌<◌, ◌≤◌, cond, ◌↔◌, List, Some, None, Option, nat_lt}
use Rattle.rules.specs.Model.{Model, capped}
use Rattle.rules.specs.Faults.{Allowed}

-- the states x and y of two rules as one state, where the second rule has n states
abbrev pub pair : ℕ → ℕ → ℕ → ℕ
pair n x y = x * n + y

-- the answers of two rules as one: a state where both give one
abbrev pub joined : ℕ → Option ℕ → Option ℕ → Option ℕ
joined n None y = None
joined n (Some x) None = None
joined n (Some x) (Some y) = Some (pair n x y)

-- Both rules at once: each walks as it would alone, a fault is permitted where both permit it, and a state is at least as free as
-- another where both its parts are.
abbrev pub both : Model → Model → Model
both a b = record {
  size = capped (a.size * b.size);
  opening = cond (nat_lt 0 (capped (a.size * b.size))) (pair b.size a.opening b.opening) 0;
  clean = λ s. pair b.size (a.clean (s / b.size)) (b.clean (s % b.size));
  spoiled = λ s. joined b.size (a.spoiled (s / b.size)) (b.spoiled (s % b.size));
  Freer = λ s t. a.Freer (s / b.size) (t / b.size) × b.Freer (s % b.size) (t % b.size);
}

-- where they have states, two rules at once allow exactly the lists that each allows
abbrev pub BothAllows : Model → Model → Type 0
BothAllows a b =
    0 < (both a b).size → (f : List ℕ) →
    Allowed (both a b) (both a b).opening 0 f ↔ (Allowed a a.opening 0 f × Allowed b b.opening 0 f)

-- The parts of a number, over two rules: the states of each that it stands for, and nothing where it is no state.
abbrev pub Parts : Model → Model → ℕ → Option (ℕ × ℕ) → Type 0
Parts a b s None = (both a b).size ≤ s
Parts a b s (Some (x, y)) = (s < (both a b).size) × (x ≡ s / b.size) × (y ≡ s % b.size) × (x < a.size) × (y < b.size)
