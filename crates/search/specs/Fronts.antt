-- What a row says of the lists of faults: when the machine can be free, or a run of a job begin, and in which states. The list is chosen from the state s0 at the clock c0
-- on, and `F h` is the clock that the jobs so far come to under the list h.
use Rattle.std.specs.Prelude.{◌≡◌, ℕ, ◌-◌, ◌<◌, ◌≤◌, ◌⊎◌, List, []}
use Rattle.inspections.specs.Verdict.{Verdict}
use Rattle.rules.specs.Faults.{Allowed}
use Rattle.rules.specs.Model.{Model, cleans}
use Rattle.schedules.specs.Futures.{Above, Earlier, Quiet, Reached, Started}
use Rattle.schedules.specs.Runs.{completion}
use Rattle.search.specs.Chains.{Starts}
use Rattle.search.specs.Rows.{In}

-- the row has a time that is not earlier than t, for a state at least as free as s
pub record Covered (m : Model) (row : List ℕ) (s t : ℕ) : Type 0 where
  pub state : ℕ
  pub time : ℕ
  pub entry : In row state time
  pub later : t ≤ time
  pub freer : Above m state s

-- under the list f the world is at the clock C, and the row covers the state that it is in there
abbrev pub Lands : Model → Verdict → ℕ → ℕ → List ℕ → ℕ → List ℕ → Type 0
Lands m V s0 c0 row C f = (e : Earlier m V s0 c0 C f) × Covered m row (cleans m (C - e.clock) e.state) C

-- the path without faults: the jobs so far come to the time t in the state s
pub record Path (m : Model) (s0 c0 : ℕ) (F : List ℕ → ℕ) (t s : ℕ) : Type 0 where
  pub quiet : Quiet F c0
  pub time : t ≡ F []
  pub state : s ≡ cleans m (F [] - c0) s0

-- The row tells when the jobs so far can be finished: each of its times is reached under some allowed list, and under each allowed list it covers when they are.
pub record Front (m : Model) (V : Verdict) (s0 c0 : ℕ) (F : List ℕ → ℕ) (row : List ℕ) : Type 0 where
  pub reached : (s t : ℕ) → Starts m row s t → Reached m V s0 c0 F t s
  pub covers : (f : List ℕ) → Allowed m s0 c0 f → Lands m V s0 c0 row (F f) f

-- a run of length p begins at S, as the row covers, and the job ends as this run and those after it do
pub record Begins (m : Model) (V : Verdict) (s0 c0 : ℕ) (F : List ℕ → ℕ) (p : ℕ) (row : List ℕ) (f : List ℕ) : Type 0 where
  pub start : ℕ
  pub ends : F f ≡ completion V p start f
  pub lands : Lands m V s0 c0 row start f

-- no time of the row is after the due quarter
abbrev pub By : Model → ℕ → List ℕ → Type 0
By m due row = (s t : ℕ) → Starts m row s t → t ≤ due

-- The rows tell how the last job begins, whose runs have the length p: `row` when a whole run of it can begin, and `finish` when it can be finished with no such run,
-- by the due quarter.
pub record Begun (m : Model) (V : Verdict) (s0 c0 : ℕ) (F : List ℕ → ℕ) (p due : ℕ) (row finish : List ℕ) : Type 0 where
  pub started : (s t : ℕ) → Starts m row s t → Started m V s0 c0 F p t s
  pub ended : (s t : ℕ) → Starts m finish s t → Reached m V s0 c0 F t s
  pub by : By m due finish
  pub covers : (f : List ℕ) → Allowed m s0 c0 f → Lands m V s0 c0 finish (F f) f ⊎ Begins m V s0 c0 F p row f

-- some allowed list takes the jobs so far past the due quarter
abbrev pub CanPass : Model → ℕ → ℕ → (List ℕ → ℕ) → ℕ → Type 0
CanPass m s0 c0 F due = (h : List ℕ) × Allowed m s0 c0 h × (due < F h)

-- the latest that the jobs so far can come to: reached under some allowed list, and exceeded under none
abbrev pub Latest : Model → ℕ → ℕ → (List ℕ → ℕ) → ℕ → Type 0
Latest m s0 c0 F t = ((h : List ℕ) × Allowed m s0 c0 h × (F h ≡ t)) × ((h : List ℕ) → Allowed m s0 c0 h → F h ≤ t)
