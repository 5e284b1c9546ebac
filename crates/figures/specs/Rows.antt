-- What a row of figures says: the worst finishes of jobs under a fault rule, or the finish of one job under a list of faults.
use Rattle.std.specs.Prelude.{ℕ, suc, List, [], ◌∷◌, None}
use Rattle.calls.specs.declared.call.Job.{Job}
use Rattle.rules.specs.Model.{Model}
use Rattle.rules.specs.Count.{count}
use Rattle.rules.specs.Gap.{gap}
use Rattle.rules.specs.Both.{both}
use Rattle.inspections.specs.Verdict.{Verdict, at_end, at_fault}
use Rattle.schedules.specs.Lists.{Pairs}
use Rattle.schedules.specs.World.{World}
use Rattle.schedules.specs.Walk.{Finish}
use Rattle.schedules.specs.Plans.{Worst, earliest}

-- a fault rule by name: at most k faults, faults at least d quarters apart, or both
pub data RuleName : Type 0 where
  count_of : ℕ → RuleName
  gap_of : ℕ → RuleName
  count_and_gap : ℕ → ℕ → RuleName

-- the rule of the name
abbrev pub model_of : RuleName → Model
model_of (count_of k) = count k
model_of (gap_of d) = gap d
model_of (count_and_gap k d) = both (count k) (gap d)

-- an inspection by name
pub data InspectionName : Type 0 where
  at_the_end : InspectionName
  at_the_fault : InspectionName

-- the inspection of the name
abbrev pub verdict_of : InspectionName → Verdict
verdict_of at_the_end = at_end
verdict_of at_the_fault = at_fault

-- jobs of these releases and lengths in sequence, with the tickets from t on, all due at 4096
abbrev pub jobs_from : ℕ → List (ℕ × ℕ) → List Job
jobs_from t [] = []
jobs_from t ((release, length) ∷ js) = record { ticket = t; release = release; due = 4096; length = length } ∷ jobs_from (suc t) js

-- a fresh board: clock 0, nothing on the machine, the rule in the state s, and these jobs waiting
abbrev pub fresh : ℕ → List Job → World
fresh s jobs = record { clock = 0; state = s; machine = None; waiting = jobs }

-- a rule, an inspection, jobs by release and length, and for each job a number
pub data WorstRow : Type 0 where
  worst_row : RuleName → InspectionName → List (ℕ × ℕ) → List ℕ → WorstRow

-- each job's worst finish, on a fresh board and with each job started as early as possible, is the number
abbrev pub WorstRight : WorstRow → Type 0
WorstRight (worst_row rule inspection jobs numbers) =
    Pairs (λ j q. Worst (model_of rule) (verdict_of inspection) (fresh (model_of rule).opening []) (jobs_from 1 jobs) (earliest 0 (jobs_from 1 jobs)) j.ticket q)
    (jobs_from 1 jobs) numbers

-- an inspection, one job by release and length, the quarters of the faults, and a number
pub data FinishRow : Type 0 where
  finish_row : InspectionName → ℕ × ℕ → List ℕ → ℕ → FinishRow

-- the job, alone on a fresh board in whatever state of the rule, finishes at the number
abbrev pub FinishRight : FinishRow → Type 0
FinishRight (finish_row inspection job faults number) = (s : ℕ) → Finish (verdict_of inspection) faults (fresh s (jobs_from 1 (job ∷ []))) 1 number
