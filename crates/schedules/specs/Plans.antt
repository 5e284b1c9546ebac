-- Plans: a start for each job of a sequence, and whether faults can make a job late.
use Rattle.std.specs.Prelude.{◌≡◌, ℕ, zero, suc, ◌+◌, ◌≤◌, max, List, [], ◌∷◌, ◌++◌}
use Rattle.rules.specs.Model.{Model}
use Rattle.rules.specs.Faults.{Allowed}
use Rattle.inspections.specs.Verdict.{Verdict}
use Rattle.schedules.specs.Lists.{Any, First}
use Rattle.calls.specs.declared.call.Job.{Job}
use Rattle.schedules.specs.World.{World, board, on_machine}
use Rattle.schedules.specs.Walk.{Finish, Late}

-- One start for each job: none before its release, the first not before the clock, and each other not before the start of the job before it plus
-- that job's length.
abbrev pub Plan : ℕ → List Job → List ℕ → Type 0
Plan clock [] [] = Unit {0}
Plan clock [] (s ∷ starts) = ⊥
Plan clock (j ∷ js) [] = ⊥
Plan clock (j ∷ js) (s ∷ starts) = (clock ≤ s) × (j.release ≤ s) × Plan (s + j.length) js starts

-- each start as early as that permits
abbrev pub earliest : ℕ → List Job → List ℕ
earliest clock [] = []
earliest clock (j ∷ js) = max j.release clock ∷ earliest (max j.release clock + j.length) js

-- the jobs with the plan's starts as releases
abbrev pub timed : List Job → List ℕ → List Job
timed [] starts = []
timed (j ∷ js) [] = []
timed (j ∷ js) (s ∷ starts) = record { ticket = j.ticket; release = s; due = j.due; length = j.length } ∷ timed js starts

-- the world in which those wait
abbrev pub planned : World → List Job → List ℕ → World
planned w jobs starts = record { clock = w.clock; state = w.state; machine = w.machine; waiting = timed jobs starts }

-- some list of faults that is allowed from here on makes the job late
abbrev pub CanBeLate : Model → Verdict → World → Job → Type 0
CanBeLate m V w j = (f : List ℕ) × Allowed m w.state w.clock f × Late V f w j

-- the plan fails: some job can be late, the job on the machine included
abbrev pub Fails : Model → Verdict → World → List Job → List ℕ → Type 0
Fails m V w jobs starts = Any (CanBeLate m V (planned w jobs starts)) (on_machine w.machine ++ jobs)

-- no plan of the sequence withstands all allowed lists
abbrev pub EveryPlanFails : Model → Verdict → World → List Job → Type 0
EveryPlanFails m V w jobs = (starts : List ℕ) → Plan w.clock jobs starts → Fails m V w jobs starts

-- the plan fails for the ticket: its job can be late
abbrev pub FailsFor : Model → Verdict → World → List Job → List ℕ → ℕ → Type 0
FailsFor m V w jobs starts t = Any (λ j. (j.ticket ≡ t) × CanBeLate m V (planned w jobs starts) j) (on_machine w.machine ++ jobs)

-- the ticket of the first job in the sequence that can be late
abbrev pub FirstLate : Model → Verdict → World → List Job → List ℕ → ℕ → Type 0
FirstLate m V w jobs starts t = First (CanBeLate m V (planned w jobs starts)) (λ j. j.ticket ≡ t) (on_machine w.machine ++ jobs)

-- the ticket of the first job of the board that can be late
abbrev pub FirstToBeLate : Model → Verdict → World → ℕ → Type 0
FirstToBeLate m V w t = First (CanBeLate m V w) (λ j. j.ticket ≡ t) (board w)

-- the worst finish of the ticket's job on the board: reached under some allowed list, and exceeded under none
abbrev pub WorstFinish : Model → Verdict → World → ℕ → ℕ → Type 0
WorstFinish m V w t c =
    ((f : List ℕ) × Allowed m w.state w.clock f × Finish V f w t c)
    × ((f : List ℕ) (q : ℕ) → Allowed m w.state w.clock f → Finish V f w t q → q ≤ c)

-- the worst finish of the ticket's job: reached under some allowed list, and exceeded under none
abbrev pub Worst : Model → Verdict → World → List Job → List ℕ → ℕ → ℕ → Type 0
Worst m V w jobs starts t c =
    ((f : List ℕ) × Allowed m w.state w.clock f × Finish V f (planned w jobs starts) t c)
    × ((f : List ℕ) (q : ℕ) → Allowed m w.state w.clock f → Finish V f (planned w jobs starts) t q → q ≤ c)

-- the waiting jobs with one more at the place, where 0 is before the first
abbrev pub proposed : ℕ → Job → List Job → List Job
proposed zero j ws = j ∷ ws
proposed (suc n) j [] = j ∷ []
proposed (suc n) j (k ∷ ws) = k ∷ proposed n j ws
