-- A board: one machine, a sequence of jobs, and what one quarter does to them. Quarter t ends at the clock t.
use Rattle.std.specs.Prelude.{ℕ, suc, ◌<◌, ◌≤◌, cond, List, [], ◌∷◌, ◌++◌, Some, None, Option, ◌==◌, ◌≢◌, nat_le}
use Rattle.std.specs.List.{AllByRecursion}
use Rattle.calls.specs.declared.answer.Event.{Event}
use Rattle.calls.specs.declared.answer.Event.TheVariants.{Again, Finished, Idle, Running}
use Rattle.calls.specs.declared.call.Job.{Job}
use Rattle.inspections.specs.Verdict.{Verdict}
use Rattle.schedules.specs.declared.run.Kind.{Kind}
use Rattle.schedules.specs.declared.run.Kind.TheVariants.{Clean, Spoiled}
use Rattle.schedules.specs.declared.run.Moment.{Moment}
use Rattle.schedules.specs.declared.run.Run.{Run}

-- the clock, the state of the fault rule, the run on the machine, if any, and the waiting jobs in sequence
pub record World : Type 0 where
  pub clock : ℕ
  pub state : ℕ
  pub machine : Option Run
  pub waiting : List Job

-- a job to stand past the end of a list
abbrev pub nobody : Job
nobody = record { ticket = 0; release = 0; due = 0; length = 0 }

-- the world at a moment, with these jobs waiting
abbrev pub world_at : Moment → List Job → World
world_at now waiting = record { clock = now.clock; state = now.state; machine = now.machine; waiting = waiting }

-- a job's run that begins
abbrev pub begun : Job → Run
begun j = record { job = j; gone = 0; hit = None }

-- what a quarter leaves on the machine and among the waiting jobs, and what is said of it
pub record Turn : Type 0 where
  pub machine : Option Run
  pub waiting : List Job
  pub event : Event

-- the first waiting job starts where the machine is empty and its release is not after the clock
abbrev pub started : ℕ → Option Run → List Job → Option Run
started clock (Some r) ws = Some r
started clock None [] = None
started clock None (j ∷ ws) = cond (nat_le j.release clock) (Some (begun j)) None

-- it is then no longer among the waiting
abbrev pub left_waiting : ℕ → Option Run → List Job → List Job
left_waiting clock (Some r) ws = ws
left_waiting clock None [] = []
left_waiting clock None (j ∷ ws) = cond (nat_le j.release clock) ws (j ∷ ws)

-- a spoiled quarter hits a run that is not hit yet
abbrev pub struck : Verdict → Kind → ℕ → ℕ → Option ℕ → Option ℕ
struck V Clean p gone hit = hit
struck V Spoiled p gone None = Some (V p gone)
struck V Spoiled p gone (Some h) = Some h

-- a run of which `gone` quarters are gone: given up and begun again, or finished, or running
abbrev pub run_after : Job → ℕ → Option ℕ → Option Run
run_after j gone None = cond (gone == j.length) None (Some (record { job = j; gone = gone; hit = None }))
run_after j gone (Some h) = cond (gone == h) (Some (begun j)) (Some (record { job = j; gone = gone; hit = Some h }))

-- what is said of it
abbrev pub event_after : Job → ℕ → Option ℕ → Event
event_after j gone None = cond (gone == j.length) (Finished j.ticket) (Running j.ticket)
event_after j gone (Some h) = cond (gone == h) (Again j.ticket) (Running j.ticket)

-- one quarter of the machine
abbrev pub machine_after : Verdict → Kind → Option Run → Option Run
machine_after V kind None = None
machine_after V kind (Some r) = run_after r.job (suc r.gone) (struck V kind r.job.length (suc r.gone) r.hit)

-- what is said of that quarter
abbrev pub event_of : Verdict → Kind → Option Run → Event
event_of V kind None = Idle
event_of V kind (Some r) = event_after r.job (suc r.gone) (struck V kind r.job.length (suc r.gone) r.hit)

-- one quarter of the board, from the clock on
abbrev pub quarter : Verdict → Kind → ℕ → Option Run → List Job → Turn
quarter V kind clock machine waiting = record {
  machine = machine_after V kind (started clock machine waiting);
  waiting = left_waiting clock machine waiting;
  event = event_of V kind (started clock machine waiting);
}

-- the jobs of a board: the one on the machine, and the waiting ones in sequence
abbrev pub on_machine : Option Run → List Job
on_machine None = []
on_machine (Some r) = r.job ∷ []

-- of a world
abbrev pub board : World → List Job
board w = on_machine w.machine ++ w.waiting

-- ticket 1 to 9999, release and due quarter up to 4096, length 1 to 96
abbrev pub WithinLimits : Job → Type 0
WithinLimits j = (1 ≤ j.ticket) × (j.ticket ≤ 9999) × (j.release ≤ 4096) × (j.due ≤ 4096) × (1 ≤ j.length) × (j.length ≤ 96)

-- no two jobs have the same ticket
abbrev pub Distinct : List Job → Type 0
Distinct [] = Unit {0}
Distinct (j ∷ js) = AllByRecursion (λ k. j.ticket ≢ k.ticket) js × Distinct js

-- a run of which g quarters are gone is given up after more than that, and not after its end
abbrev pub HitRight : ℕ → ℕ → Option ℕ → Type 0
HitRight p g None = Unit {0}
HitRight p g (Some h) = (g < h) × (h ≤ p)

-- a run that began not before the clock 0, and is not over
abbrev pub RunRight : ℕ → Option Run → Type 0
RunRight clock None = Unit {0}
RunRight clock (Some r) = (r.gone < r.job.length) × (r.gone ≤ clock) × HitRight r.job.length r.gone r.hit

-- the world with other waiting jobs
abbrev pub with_waiting : World → List Job → World
with_waiting w ws = record { clock = w.clock; state = w.state; machine = w.machine; waiting = ws }

-- the waiting jobs without the ticket's
abbrev pub without : ℕ → List Job → List Job
without t [] = []
without t (j ∷ ws) = cond (j.ticket == t) ws (j ∷ without t ws)
