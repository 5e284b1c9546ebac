-- The board's course under a list of faults, and when it finishes each job.
use Rattle.std.specs.Prelude.{◌≡◌, ℕ, zero, suc, ◌+◌, ◌<◌, ◌≤◌, cond, List, [], ◌∷◌, Option, ◌==◌, slice_index_or}
use Rattle.inspections.specs.Verdict.{Verdict}
use Rattle.schedules.specs.Clear.{Least}
use Rattle.calls.specs.declared.call.Job.{Job}
use Rattle.schedules.specs.declared.run.Run.{Run}
use Rattle.schedules.specs.World.{World, quarter}
use Rattle.schedules.specs.declared.run.Kind.{Kind}
use Rattle.schedules.specs.declared.run.Kind.TheVariants.{Clean, Spoiled}
use Rattle.calls.specs.declared.answer.Event.{Event}
use Rattle.calls.specs.declared.answer.Event.TheVariants.{Idle, Finished}

-- Spoiled exactly in the quarters of f
abbrev pub kind_in : List ℕ → ℕ → Kind
kind_in [] t = Clean
kind_in (q ∷ f) t = cond (q == t) Spoiled (kind_in f t)

-- the events of the n quarters after the clock, under the faults f, each job being started as soon as machine and release permit
abbrev pub walk : Verdict → List ℕ → ℕ → ℕ → Option Run → List Job → List Event
walk V f zero clock machine waiting = []
walk V f (suc n) clock machine waiting =
    (quarter V (kind_in f (suc clock)) clock machine waiting).event
    ∷ walk V f n (suc clock) (quarter V (kind_in f (suc clock)) clock machine waiting).machine (quarter V (kind_in f (suc clock)) clock machine waiting).waiting

-- the walk gives `Finished ticket` in the quarter q
abbrev pub Gives : Verdict → List ℕ → ℕ → Option Run → List Job → ℕ → ℕ → Type 0
Gives V f clock machine waiting ticket q =
    (n : ℕ) × (q ≡ clock + suc n) × (slice_index_or (walk V f (suc n) clock machine waiting) n Idle ≡ Finished ticket)

-- the job with the ticket is finished in the quarter q, the first in which the walk says so
abbrev pub Finish : Verdict → List ℕ → World → ℕ → ℕ → Type 0
Finish V f w ticket q = Least (Gives V f w.clock w.machine w.waiting ticket) q

-- it finishes after its due quarter
abbrev pub Late : Verdict → List ℕ → World → Job → Type 0
Late V f w j = (q : ℕ) × Finish V f w j.ticket q × (j.due < q)

-- it finishes not after its due quarter
abbrev pub OnTime : Verdict → List ℕ → World → Job → Type 0
OnTime V f w j = (q : ℕ) × Finish V f w j.ticket q × (q ≤ j.due)
