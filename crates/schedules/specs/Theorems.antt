-- The statements about finishes and plans.
use Rattle.std.specs.Prelude.{ℕ, ◌<◌, ◌≤◌, ◌⊎◌, ◌↔◌, List}
use Rattle.calls.specs.declared.call.Job.{Job}
use Rattle.inspections.specs.Verdict.{Bounded, Verdict}
use Rattle.rules.specs.Faults.{Allowed, Increasing}
use Rattle.rules.specs.Model.{Model}
use Rattle.schedules.specs.Foreseen.{foreseen}
use Rattle.schedules.specs.Lists.{Any, Pairs}
use Rattle.schedules.specs.Plans.{CanBeLate, EveryPlanFails, Fails, FailsFor, FirstLate, FirstToBeLate, Plan, Worst, WorstFinish, earliest}
use Rattle.schedules.specs.Ready.{Ready, Right}
use Rattle.schedules.specs.Walk.{Finish}
use Rattle.schedules.specs.World.{World, board, with_waiting, without}
use Rattle.std.specs.List.{AllByRecursion}

-- The two grains agree: quarter by quarter, each job is finished in the quarter that the grain of runs foresees, under every list of faults.
abbrev pub Bridge : Type 0
Bridge =
    (V : Verdict) → Bounded V → (w : World) → Ready w → (f : List ℕ) → Increasing w.clock f →
    Pairs (λ j q. Finish V f w j.ticket q) (board w) (foreseen V w.clock w.machine w.waiting f)

-- The plan argument: where some allowed list makes the ticket's job late in the earliest plan, in every plan some allowed list makes it late.
abbrev pub PlanArgument : Model → Type 0
PlanArgument m =
    (V : Verdict) → Bounded V → (w : World) (jobs : List Job) → w.state < m.size → Right (with_waiting w jobs) →
    (t : ℕ) → FailsFor m V w jobs (earliest w.clock jobs) t → (starts : List ℕ) → Plan w.clock jobs starts → FailsFor m V w jobs starts t

-- So the earliest plan decides: every plan fails just where it does, and for the first ticket that can be late in it.
abbrev pub Decides : Model → Type 0
Decides m =
    (V : Verdict) → Bounded V → (w : World) (jobs : List Job) → w.state < m.size → Right (with_waiting w jobs) →
    (EveryPlanFails m V w jobs ↔ Fails m V w jobs (earliest w.clock jobs))
    × ((t : ℕ) → FirstLate m V w jobs (earliest w.clock jobs) t → (starts : List ℕ) → Plan w.clock jobs starts → FailsFor m V w jobs starts t)

-- On its own releases the board goes as it does in the earliest plan: the same job is the first that can be late, nobody can be late in the one where nobody can be in the
-- other, and each job has the same worst finish.
abbrev pub Alike : Model → Type 0
Alike m =
    (V : Verdict) → Bounded V → (w : World) (jobs : List Job) → Ready (with_waiting w jobs) →
    ((t : ℕ) → FirstToBeLate m V (with_waiting w jobs) t ↔ FirstLate m V w jobs (earliest w.clock jobs) t)
    × (Any (CanBeLate m V (with_waiting w jobs)) (board (with_waiting w jobs)) ↔ Fails m V w jobs (earliest w.clock jobs))
    × AllByRecursion (λ j. (c : ℕ) → WorstFinish m V (with_waiting w jobs) j.ticket c ↔ Worst m V w jobs (earliest w.clock jobs) j.ticket c) (board (with_waiting w jobs))

-- Whatever finish q an allowed list brings the job in the world after, some allowed list brings it one that is not earlier in the world before, or one that is
-- after 4096.
abbrev pub Removed : Model → Verdict → World → World → Job → Type 0
Removed m V before after j =
    (f : List ℕ) → Allowed m after.state after.clock f → (q : ℕ) → Finish V f after j.ticket q →
    (g : List ℕ) × Allowed m before.state before.clock g × (r : ℕ) × Finish V g before j.ticket r × ((q ≤ r) ⊎ (4096 < r))

-- Removing a waiting job brings no other job's worst finish later, unless that could be after 4096 already.
abbrev pub Removing : Model → Type 0
Removing m =
    (V : Verdict) → Bounded V → (w : World) → w.state < m.size → Right w → (t : ℕ) →
    AllByRecursion (Removed m V w (with_waiting w (without t w.waiting))) (board (with_waiting w (without t w.waiting)))
