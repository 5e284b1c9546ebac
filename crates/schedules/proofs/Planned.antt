-- The finishes in a plan, and in the earliest one.
use Rattle.std.proofs.Common.{◌≡◌, ℕ, zero, suc, ◌+◌, ◌≤◌, max, List, [], ◌∷◌, ◌++◌, length, take, Some, None, Option, refl, ap, ◌∙◌, inl, inr, arith}
use Rattle.std.specs.List.{AllByRecursion}
use Rattle.std.proofs.lemmas.Bool.{cases_order}
use Rattle.std.proofs.ByRecursion.{All-weaker}
use Rattle.rules.specs.Model.{Model}
use Rattle.rules.specs.Faults.{Allowed, Increasing}
use Rattle.inspections.specs.Verdict.{Verdict, Bounded}
use Rattle.schedules.specs.Runs.{completion, finishes}
use Rattle.schedules.specs.Clear.{Least}
use Rattle.schedules.proofs.Completion.{completion_grows}
use Rattle.schedules.proofs.Following.{Outlasts, none, kept}
use Rattle.schedules.specs.Lists.{Pairs}
use Rattle.calls.specs.declared.call.Job.{Job}
use Rattle.schedules.specs.declared.run.Run.{Run}
use Rattle.schedules.specs.World.{World, on_machine, board, Distinct, WithinLimits, with_waiting}
use Rattle.schedules.specs.Walk.{Finish}
use Rattle.schedules.specs.Plans.{Plan, earliest, timed, planned}
use Rattle.schedules.specs.Ready.{Ready, Right}
use Rattle.schedules.specs.Foreseen.{slots, free, foreseen}
use Rattle.schedules.proofs.Bridge.{bridge}

pub allowed_increasing : (m : Model) (s c : ℕ) (f : List ℕ) → Allowed m s c f → Increasing c f
allowed_increasing m s c [] a = tt
allowed_increasing m s c (q ∷ f) (t, late, by, permitted, a) = (late, allowed_increasing m t q f a)

pub least_unique : (P : ℕ → Type 0) (a b : ℕ) → Least P a → Least P b → a ≡ b
least_unique P a b p q = elim (cases_order a b) [ inl e ↦ e | inr (inl h) ↦ absurd (q.1 a h p.0) | inr (inr h) ↦ absurd (p.1 b h q.0) ]

pub right_ready : (w : World) → Right w → Ready w
right_ready w right = record { run = right.run; long = All-weaker WithinLimits (λ j. 1 ≤ j.length) (λ j h. h.4) (board w) right.limits; distinct = right.distinct }

-- a job with another release
abbrev moved_to : ℕ → Job → Job
moved_to s j = record { ticket = j.ticket; release = s; due = j.due; length = j.length }

timed_all : (P : Job → Type 0) → ((j : Job) (s : ℕ) → P j → P (moved_to s j)) → (jobs : List Job) (starts : List ℕ) → AllByRecursion P jobs → AllByRecursion P (timed jobs starts)
timed_all P keeps [] starts a = tt
timed_all P keeps (j ∷ js) [] a = tt
timed_all P keeps (j ∷ js) (s ∷ starts) a = (keeps j s a.0, timed_all P keeps js starts a.1)

timed_distinct : (jobs : List Job) (starts : List ℕ) → Distinct jobs → Distinct (timed jobs starts)
timed_distinct [] starts d = tt
timed_distinct (j ∷ js) [] d = tt
timed_distinct (j ∷ js) (s ∷ starts) d = (timed_all (λ k. j.ticket ≡ k.ticket → ⊥) (λ k n h. h) js starts d.0, timed_distinct js starts d.1)

board_all : (P : Job → Type 0) → ((j : Job) (s : ℕ) → P j → P (moved_to s j)) → (machine : Option Run) (jobs : List Job) (starts : List ℕ) →
    AllByRecursion P (on_machine machine ++ jobs) → AllByRecursion P (on_machine machine ++ timed jobs starts)
board_all P keeps None jobs starts a = timed_all P keeps jobs starts a
board_all P keeps (Some r) jobs starts a = (a.0, timed_all P keeps jobs starts a.1)

board_distinct : (machine : Option Run) (jobs : List Job) (starts : List ℕ) → Distinct (on_machine machine ++ jobs) → Distinct (on_machine machine ++ timed jobs starts)
board_distinct None jobs starts d = timed_distinct jobs starts d
board_distinct (Some r) jobs starts d = (timed_all (λ k. r.job.ticket ≡ k.ticket → ⊥) (λ k n h. h) jobs starts d.0, timed_distinct jobs starts d.1)

pub planned_ready : (w : World) (jobs : List Job) (starts : List ℕ) → Ready (with_waiting w jobs) → Ready (planned w jobs starts)
planned_ready w jobs starts ready = record {
  run = ready.run;
  long = board_all (λ j. 1 ≤ j.length) (λ j s h. h) w.machine jobs starts ready.long;
  distinct = board_distinct w.machine jobs starts ready.distinct;
}

-- what holds of the timed jobs holds of the jobs, if it does not depend on the release
timed_pairs : (R : Job → ℕ → Type 0) → ((j : Job) (s q : ℕ) → R (moved_to s j) q → R j q) → (c : ℕ) (jobs : List Job) (starts : List ℕ) → Plan c jobs starts →
    (times : List ℕ) → Pairs R (timed jobs starts) times → Pairs R jobs times
timed_pairs R keeps c [] [] plan times p = p
timed_pairs R keeps c [] (s ∷ starts) plan times p = absurd plan
timed_pairs R keeps c (j ∷ js) [] plan times p = absurd plan
timed_pairs R keeps c (j ∷ js) (s ∷ starts) plan [] p = p
timed_pairs R keeps c (j ∷ js) (s ∷ starts) plan (q ∷ times) p = (keeps j s q p.0, timed_pairs R keeps (s + j.length) js starts plan.2 times p.1)

-- the finishes in a plan
pub plan_finishes : (V : Verdict) → Bounded V → (w : World) (jobs : List Job) (starts : List ℕ) → Ready (with_waiting w jobs) → Plan w.clock jobs starts →
    (f : List ℕ) → Increasing w.clock f →
    Pairs (λ j q. Finish V f (planned w jobs starts) j.ticket q) (on_machine w.machine ++ jobs) (foreseen V w.clock w.machine (timed jobs starts) f)
plan_finishes V bounded w jobs starts ready plan f i =
    by_machine w.machine (bridge V bounded (planned w jobs starts) (planned_ready w jobs starts ready) f i)
  where
    R : Job → ℕ → Type 0
    R j q = Finish V f (planned w jobs starts) j.ticket q

    by_machine : (machine : Option Run) → Pairs R (on_machine machine ++ timed jobs starts) (foreseen V w.clock machine (timed jobs starts) f) →
        Pairs R (on_machine machine ++ jobs) (foreseen V w.clock machine (timed jobs starts) f)
    by_machine None p = timed_pairs R (λ j s q h. h) w.clock jobs starts plan (foreseen V w.clock None (timed jobs starts) f) p
    by_machine (Some r) p = (p.0, timed_pairs R (λ j s q h. h) w.clock jobs starts plan (finishes V (free V w.clock (Some r) f) (slots (timed jobs starts)) f) p.1)

-- the earliest plan is a plan
pub earliest_plan : (c : ℕ) (jobs : List Job) → Plan c jobs (earliest c jobs)
earliest_plan c [] = tt
earliest_plan c (j ∷ js) = (omega arith, omega arith, earliest_plan (max j.release c + j.length) js)

-- no plan starts a job earlier
pub earliest_first : (n c d : ℕ) (jobs : List Job) (starts : List ℕ) → c ≤ d → Plan d jobs starts →
    Outlasts (take n (slots (timed jobs (earliest c jobs)))) (take n (slots (timed jobs starts)))
earliest_first zero c d jobs starts h plan = none
earliest_first (suc n) c d [] [] h plan = none
earliest_first (suc n) c d [] (s ∷ starts) h plan = absurd plan
earliest_first (suc n) c d (j ∷ js) [] h plan = absurd plan
earliest_first (suc n) c d (j ∷ js) (s ∷ starts) h plan =
    kept (omega (arith, plan.0, plan.1)) refl
    (earliest_first n (max j.release c + j.length) (s + j.length) js starts (omega (arith, plan.0, plan.1)) plan.2)

pub length_timed : (c : ℕ) (jobs : List Job) (starts : List ℕ) → Plan c jobs starts → length (slots (timed jobs starts)) ≡ length jobs
length_timed c [] [] plan = refl
length_timed c [] (s ∷ starts) plan = absurd plan
length_timed c (j ∷ js) [] plan = absurd plan
length_timed c (j ∷ js) (s ∷ starts) plan = ap suc (length_timed (s + j.length) js starts plan.2)

-- in the earliest plan the jobs finish as they do on their own releases
pub earliest_same : (V : Verdict) → Bounded V → (c T : ℕ) (jobs : List Job) (f : List ℕ) → c ≤ T →
    finishes V T (slots (timed jobs (earliest c jobs))) f ≡ finishes V T (slots jobs) f
earliest_same V bounded c T [] f h = refl
earliest_same V bounded c T (j ∷ js) f h =
    let S = max j.release c in
    let start : max S T ≡ max j.release T = omega arith in
    let C = completion V j.length (max j.release T) f in
    ap (λ n. completion V j.length n f ∷ finishes V (completion V j.length n f) (slots (timed js (earliest (S + j.length) js))) f) start
    ∙ ap (λ l. C ∷ l) (earliest_same V bounded (S + j.length) C js f (omega (arith, completion_grows V bounded j.length (max j.release T) f)))
