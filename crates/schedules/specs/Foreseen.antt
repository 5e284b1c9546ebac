-- When whole runs have the jobs of a board finished.
use Rattle.std.specs.Prelude.{ℕ, ◌+◌, ◌-◌, List, [], ◌∷◌, Some, None, Option}
use Rattle.inspections.specs.Verdict.{Verdict}
use Rattle.schedules.specs.Runs.{completion, finishes, Slot}
use Rattle.calls.specs.declared.call.Job.{Job}
use Rattle.schedules.specs.declared.run.Run.{Run}

-- the waiting jobs as a schedule, with their releases as starts
abbrev pub slots : List Job → List Slot
slots [] = []
slots (j ∷ js) = record { start = j.release; run = j.length } ∷ slots js

-- the clock at which the run counts as begun: where it began, or where it will begin again
abbrev pub begun_at : ℕ → ℕ → Option ℕ → ℕ
begun_at clock gone None = clock - gone
begun_at clock gone (Some h) = clock + (h - gone)

-- the clock from which on the machine is free for the waiting jobs
abbrev pub free : Verdict → ℕ → Option Run → List ℕ → ℕ
free V clock None f = clock
free V clock (Some r) f = completion V r.job.length (begun_at clock r.gone r.hit) f

-- the finishes of the job on the machine and of the waiting ones
abbrev pub foreseen : Verdict → ℕ → Option Run → List Job → List ℕ → List ℕ
foreseen V clock None waiting f = finishes V clock (slots waiting) f
foreseen V clock (Some r) waiting f = free V clock (Some r) f ∷ finishes V (free V clock (Some r) f) (slots waiting) f
