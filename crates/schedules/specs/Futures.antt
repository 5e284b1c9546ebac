-- The words of a world whose list of faults is chosen bit by bit: the jobs so far, and the faults that are still to come.
use Rattle.std.specs.Prelude.{◌≡◌, ℕ, ◌-◌, ◌<◌, ◌≤◌, max, List, [], ◌∷◌}
use Rattle.inspections.specs.Verdict.{Verdict}
use Rattle.rules.specs.Faults.{Allowed}
use Rattle.rules.specs.Model.{Model, cleans}
use Rattle.schedules.specs.Runs.{Slot, completion}

-- two states of the rule, the first at least as free as the second
abbrev pub Above : Model → ℕ → ℕ → Type 0
Above m s t = (s < m.size) × (t < m.size) × m.Freer s t

-- the first fault, if any, is after the clock D
abbrev pub Beyond : ℕ → List ℕ → Type 0
Beyond D [] = Unit {0}
Beyond D (q ∷ g) = D < q

-- from the clock C on, the two lists of faults finish every run alike
abbrev pub Same : Verdict → ℕ → List ℕ → List ℕ → Type 0
Same V C f g = (p S : ℕ) → C ≤ S → completion V p S f ≡ completion V p S g

-- The list is chosen from the state s0 at the clock c0 on, and `F h` is the clock that the jobs so far come to under the list h.

-- a run of length p is begun at S in the state s: each list g from there on extends to a whole list
abbrev pub Started : Model → Verdict → ℕ → ℕ → (List ℕ → ℕ) → ℕ → ℕ → ℕ → Type 0
Started m V s0 c0 F p S s = (g : List ℕ) → Allowed m s S g → (h : List ℕ) × Allowed m s0 c0 h × (F h ≡ completion V p S g) × Same V S h g

-- the jobs so far are finished at C, and the state is s there
abbrev pub Reached : Model → Verdict → ℕ → ℕ → (List ℕ → ℕ) → ℕ → ℕ → Type 0
Reached m V s0 c0 F C s = (g : List ℕ) → Allowed m s C g → (h : List ℕ) × Allowed m s0 c0 h × (F h ≡ C) × Same V C h g

-- with no fault up to the clock `F []`, that is what the jobs so far come to
pub record Quiet (F : List ℕ → ℕ) (c0 : ℕ) : Type 0 where
  pub begun : c0 ≤ F []
  pub quiet : (g : List ℕ) → Beyond (F []) g → F g ≡ F []

-- one job more
abbrev pub and_then : Verdict → (List ℕ → ℕ) → Slot → List ℕ → ℕ
and_then V F k h = completion V k.run (max k.start (F h)) h

-- A world at the clock C whose list of faults is f: the faults `rest` are to come from the clock `clock` on, in the state `state` there; and a clean
-- walk from s0 and c0 is at least as free.
pub record Earlier (m : Model) (V : Verdict) (s0 c0 C : ℕ) (f : List ℕ) : Type 0 where
  pub state : ℕ
  pub clock : ℕ
  pub rest : List ℕ
  pub allowed : Allowed m state clock rest
  pub begun : c0 ≤ clock
  pub passed : clock ≤ C
  pub base : Above m (cleans m (clock - c0) s0) state
  pub same : Same V C f rest
