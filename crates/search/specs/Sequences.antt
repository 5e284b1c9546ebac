-- What a search tells of a sequence of jobs.
use Rattle.std.specs.Prelude.{◌≡◌, ℕ, zero, suc, ◌<◌, ◌≤◌, List, [], ◌∷◌, length, Result, MatchResult, slice_index, slice_index_or}
use Rattle.calls.specs.declared.call.Job.{Job}
use Rattle.calls.specs.declared.refusal.Refusal.{Refusal}
use Rattle.calls.specs.declared.refusal.Refusal.TheVariants.{Late}
use Rattle.inspections.specs.Verdict.{Verdict}
use Rattle.rules.specs.Model.{Model}
use Rattle.schedules.specs.Futures.{and_then}
use Rattle.schedules.specs.Foreseen.{foreseen}
use Rattle.schedules.specs.World.{World, board, nobody}
use Rattle.search.specs.Fronts.{CanPass, Front, Latest, Path}
use Rattle.search.specs.Jobs.{slot}

-- the clock that the first n jobs come to under the list h, where the machine comes to `F h` before them
abbrev pub upto : Verdict → (List ℕ → ℕ) → ℕ → List Job → List ℕ → ℕ
upto V F zero js = F
upto V F (suc n) [] = F
upto V F (suc n) (j ∷ js) = upto V (and_then V F (slot j)) n js

-- The first n jobs cannot be late, and their latest finishes stand first in `new`; the others of its numbers are those of `old`. `G k h` is the finish of job k under
-- the list h.
pub record Judged (m : Model) (s0 c0 : ℕ) (G : ℕ → List ℕ → ℕ) (js : List Job) (n : ℕ) (old new : List ℕ) : Type 0 where
  pub latest : (k : ℕ) → k < n → Latest m s0 c0 (G k) (slice_index new k)
  pub on_time : (k : ℕ) → k < n → slice_index new k ≤ (slice_index_or js k nobody).due
  pub rest : (k : ℕ) → n ≤ k → slice_index new k ≡ slice_index old k

-- job n is the first that can be late, and has the ticket t
pub record LateAt (m : Model) (s0 c0 : ℕ) (G : ℕ → List ℕ → ℕ) (js : List Job) (old new : List ℕ) (t n : ℕ) : Type 0 where
  pub within : n < length js
  pub ticket : t ≡ (slice_index_or js n nobody).ticket
  pub late : CanPass m s0 c0 (G n) (slice_index_or js n nobody).due
  pub before : Judged m s0 c0 G js n old new

-- no job can be late, or the refusal names the first that can
abbrev pub Judges : Model → ℕ → ℕ → (ℕ → List ℕ → ℕ) → List Job → List ℕ → List ℕ → Result (Unit {0}) Refusal → Type 0
Judges m s0 c0 G js old new r = MatchResult r (λ u. Judged m s0 c0 G js (length js) old new) (λ e. (t : ℕ) × (n : ℕ) × (e ≡ Late t) × LateAt m s0 c0 G js old new t n)

-- the finish of waiting job k, on a machine that comes to `F h` under the list h
abbrev pub finish_of : Verdict → (List ℕ → ℕ) → List Job → ℕ → List ℕ → ℕ
finish_of V F js k = upto V F (suc k) js

-- Where `row` tells when the machine is free for the jobs, and the path without faults has it free at t in the state s, that is what is answered of them.
abbrev pub JudgesFrom : Model → Verdict → List ℕ → ℕ → ℕ → List Job → List ℕ → List ℕ → Result (Unit {0}) Refusal → Type 0
JudgesFrom m V row t s js old new r =
    (s0 c0 : ℕ) (F : List ℕ → ℕ) → s0 < m.size → Path m s0 c0 F t s → Front m V s0 c0 F row → Judges m s0 c0 (finish_of V F js) js old new r

-- the finish of job k of a board under the list h
abbrev pub board_finish : Verdict → World → ℕ → List ℕ → ℕ
board_finish V w k h = slice_index (foreseen V w.clock w.machine w.waiting h) k

-- what is answered of all jobs of a board
abbrev pub JudgesBoard : Model → Verdict → World → List ℕ → List ℕ → Result (Unit {0}) Refusal → Type 0
JudgesBoard m V w old new r = Judges m w.state w.clock (board_finish V w) (board w) old new r
