-- What the rows are to tell of one job more, whatever came before it.
use Rattle.std.specs.Prelude.{ℕ, ◌<◌, ◌≤◌, List}
use Rattle.calls.specs.declared.call.Job.{Job}
use Rattle.inspections.specs.Verdict.{Bounded, Verdict}
use Rattle.rules.specs.Model.{Model}
use Rattle.schedules.specs.Futures.{and_then}
use Rattle.schedules.specs.Runs.{Slot}
use Rattle.search.specs.Fronts.{Begun, By, CanPass, Front, Path}

-- a job as a slot of a schedule
abbrev pub slot : Job → Slot
slot j = record { start = j.release; run = j.length }

-- what the search asks of a job: a due quarter up to 4096, and a length from 1 to 96
abbrev pub Searchable : Job → Type 0
Searchable j = (j.due ≤ 4096) × (1 ≤ j.length) × (j.length ≤ 96)

-- Where `row` tells when the machine is free, and the path without faults has it free at t in the state s: `row'` and `finish'` tell how the job begins, and that path has it
-- finished at t' in the state s'.
abbrev pub BeginsJob : Model → Job → ℕ → ℕ → List ℕ → List ℕ → List ℕ → ℕ → ℕ → Type 0
BeginsJob m j t s row row' finish' t' s' =
    (V : Verdict) → Bounded V → (s0 c0 : ℕ) (F : List ℕ → ℕ) → s0 < m.size → Path m s0 c0 F t s → Front m V s0 c0 F row →
    Path m s0 c0 (and_then V F (slot j)) t' s' × Begun m V s0 c0 (and_then V F (slot j)) j.length j.due row' finish'

-- The rows tell how the job goes on, and the path without faults has it finished at t in the state s.
abbrev pub Resumes : Model → Verdict → ℕ → ℕ → (List ℕ → ℕ) → Job → List ℕ → List ℕ → ℕ → ℕ → Type 0
Resumes m V s0 c0 F j row finish t s = Path m s0 c0 F t s × (s < m.size) × Begun m V s0 c0 F j.length j.due row finish

-- Where `row` and `finish` tell how the job begins, `row'` tells when it is finished, and that is by its due quarter.
abbrev pub EndsJob : Model → Verdict → Job → List ℕ → List ℕ → List ℕ → Type 0
EndsJob m V j row finish row' = (s0 c0 : ℕ) (F : List ℕ → ℕ) → Begun m V s0 c0 F j.length j.due row finish → Front m V s0 c0 F row' × By m j.due row'

-- Where they tell so, it can be late.
abbrev pub LateJob : Model → Verdict → Job → List ℕ → List ℕ → Type 0
LateJob m V j row finish = (s0 c0 : ℕ) (F : List ℕ → ℕ) → Begun m V s0 c0 F j.length j.due row finish → CanPass m s0 c0 F j.due
