-- The earliest plan, and the board on its own releases.
use Rattle.std.proofs.Common.{◌≡◌, ℕ, ◌+◌, ◌-◌, ◌<◌, ◌≤◌, ◌↔◌, List, [], ◌∷◌, ◌++◌, length, get_or, Some, None, Option, ap, subst, inl, inr, arith}
use Rattle.std.specs.List.{AllByRecursion}
use Rattle.std.proofs.ByRecursion.{All-from_get_or, All-weaker}
use Rattle.rules.specs.Model.{Model}
use Rattle.rules.specs.Faults.{Increasing}
use Rattle.inspections.specs.Verdict.{Verdict, Bounded}
use Rattle.calls.specs.declared.call.Job.{Job}
use Rattle.schedules.specs.Foreseen.{begun_at, foreseen, free}
use Rattle.schedules.specs.Lists.{First}
use Rattle.schedules.specs.Plans.{CanBeLate, Worst, WorstFinish, earliest, planned, timed}
use Rattle.schedules.specs.Ready.{Ready}
use Rattle.schedules.specs.Runs.{completion}
use Rattle.schedules.specs.Theorems.{Alike}
use Rattle.schedules.specs.Walk.{Finish, Gives}
use Rattle.schedules.specs.World.{World, RunRight, nobody, on_machine, with_waiting}
use Rattle.schedules.specs.declared.run.Run.{Run}
use Rattle.schedules.proofs.Bridge.{bridge}
use Rattle.schedules.proofs.Completion.{completion_grows}
use Rattle.schedules.proofs.Lists.{any_map, pairs_at}
use Rattle.schedules.proofs.Planned.{allowed_increasing, earliest_plan, earliest_same, least_unique, plan_finishes}

module _ {A : Type 0} where
  -- P and P' hold of the same elements
  first_map : (P P' Q : A → Type 0) (xs : List A) → AllByRecursion (λ x. P x ↔ P' x) xs → First P Q xs → First P' Q xs
  first_map P P' Q [] same f = f
  first_map P P' Q (x ∷ xs) same (inl (p, q)) = inl (same.0.0 p, q)
  first_map P P' Q (x ∷ xs) same (inr (never, f)) = inr (λ p. never (same.0.1 p), first_map P P' Q xs same.1 f)

  turned : (P P' : A → Type 0) (xs : List A) → AllByRecursion (λ x. P x ↔ P' x) xs → AllByRecursion (λ x. P' x ↔ P x) xs
  turned P P' xs same = All-weaker (λ x. P x ↔ P' x) (λ x. P' x ↔ P x) (λ x e. (e.1, e.0)) xs same

module _ (V : Verdict) (bounded : Bounded V) (w : World) (jobs : List Job) (ready : Ready (with_waiting w jobs)) where
  abbrev starts : List ℕ
  starts = earliest w.clock jobs

  abbrev all_jobs : List Job
  all_jobs = on_machine w.machine ++ jobs

  -- the finishes that are foreseen are the same
  same_times : (machine : Option Run) → RunRight w.clock machine → (f : List ℕ) → foreseen V w.clock machine (timed jobs starts) f ≡ foreseen V w.clock machine jobs f
  same_times None right f = earliest_same V bounded w.clock w.clock jobs f (omega arith)
  same_times (Some r) right f =
      ap (λ l. free V w.clock (Some r) f ∷ l) (earliest_same V bounded w.clock (free V w.clock (Some r) f) jobs f (not_before r.hit))
    where
      not_before : (hit : Option ℕ) → w.clock ≤ completion V r.job.length (begun_at w.clock r.gone hit) f
      not_before None = omega (arith, right.0, right.1, completion_grows V bounded r.job.length (w.clock - r.gone) f)
      not_before (Some h) = omega (arith, completion_grows V bounded r.job.length (w.clock + (h - r.gone)) f)

  module _ (f : List ℕ) (i : Increasing w.clock f) (k : ℕ) (within : k < length all_jobs) where
    abbrev time : ℕ
    time = get_or (foreseen V w.clock w.machine jobs f) k 0

    abbrev ticket_at : ℕ
    ticket_at = (get_or all_jobs k nobody).ticket

    own : Finish V f (with_waiting w jobs) ticket_at time
    own = pairs_at (λ j q. Finish V f (with_waiting w jobs) j.ticket q) all_jobs (foreseen V w.clock w.machine jobs f) k nobody 0 within (bridge V bounded (with_waiting w jobs) ready f i)

    planned_time : Finish V f (planned w jobs starts) ticket_at time
    planned_time =
        subst (λ l. Finish V f (planned w jobs starts) ticket_at (get_or l k 0)) (same_times w.machine ready.run f)
        (pairs_at (λ j q. Finish V f (planned w jobs starts) j.ticket q) all_jobs (foreseen V w.clock w.machine (timed jobs starts) f) k nobody 0 within
        (plan_finishes V bounded w jobs starts ready (earliest_plan w.clock jobs) f i))

    pub to_plan : (q : ℕ) → Finish V f (with_waiting w jobs) ticket_at q → Finish V f (planned w jobs starts) ticket_at q
    to_plan q ends =
        subst (Finish V f (planned w jobs starts) ticket_at) (least_unique (Gives V f w.clock w.machine jobs ticket_at) time q own ends) planned_time

    pub from_plan : (q : ℕ) → Finish V f (planned w jobs starts) ticket_at q → Finish V f (with_waiting w jobs) ticket_at q
    from_plan q ends =
        subst (Finish V f (with_waiting w jobs) ticket_at) (least_unique (Gives V f w.clock w.machine (timed jobs starts) ticket_at) time q planned_time ends) own

  module _ (m : Model) where
    late_alike : (k : ℕ) → k < length all_jobs → CanBeLate m V (with_waiting w jobs) (get_or all_jobs k nobody) ↔ CanBeLate m V (planned w jobs starts) (get_or all_jobs k nobody)
    late_alike k within = (
      λ (f, a, (q, ends, late)). (f, a, (q, to_plan f (allowed_increasing m w.state w.clock f a) k within q ends, late)),
      λ (f, a, (q, ends, late)). (f, a, (q, from_plan f (allowed_increasing m w.state w.clock f a) k within q ends, late)),
    )

    worst_alike : (k : ℕ) → k < length all_jobs → (c : ℕ) → WorstFinish m V (with_waiting w jobs) (get_or all_jobs k nobody).ticket c ↔ Worst m V w jobs starts (get_or all_jobs k nobody).ticket c
    worst_alike k within c = (
      λ ((f, a, ends), most). (
        (f, a, to_plan f (allowed_increasing m w.state w.clock f a) k within c ends),
        λ g q b later. most g q b (from_plan g (allowed_increasing m w.state w.clock g b) k within q later),
      ),
      λ ((f, a, ends), most). (
        (f, a, from_plan f (allowed_increasing m w.state w.clock f a) k within c ends),
        λ g q b later. most g q b (to_plan g (allowed_increasing m w.state w.clock g b) k within q later),
      ),
    )

    abbrev OnOwn : Job → Type 0
    OnOwn j = CanBeLate m V (with_waiting w jobs) j

    abbrev InPlan : Job → Type 0
    InPlan j = CanBeLate m V (planned w jobs starts) j

    pub all_late : AllByRecursion (λ j. OnOwn j ↔ InPlan j) all_jobs
    all_late = All-from_get_or (λ j. OnOwn j ↔ InPlan j) all_jobs nobody late_alike

    pub all_worst : AllByRecursion (λ j. (c : ℕ) → WorstFinish m V (with_waiting w jobs) j.ticket c ↔ Worst m V w jobs starts j.ticket c) all_jobs
    all_worst = All-from_get_or (λ j. (c : ℕ) → WorstFinish m V (with_waiting w jobs) j.ticket c ↔ Worst m V w jobs starts j.ticket c) all_jobs nobody worst_alike

pub alike : (m : Model) → Alike m
alike m V bounded w jobs ready =
    let xs = on_machine w.machine ++ jobs in
    let P : Job → Type 0 = CanBeLate m V (with_waiting w jobs) in
    let P' : Job → Type 0 = CanBeLate m V (planned w jobs (earliest w.clock jobs)) in
    let same : AllByRecursion (λ j. P j ↔ P' j) xs = all_late V bounded w jobs ready m in
    let back : AllByRecursion (λ j. P' j ↔ P j) xs = turned P P' xs same in (
      λ t. (first_map P P' (λ j. j.ticket ≡ t) xs same, first_map P' P (λ j. j.ticket ≡ t) xs back),
      (
        any_map P P' xs (All-weaker (λ j. P j ↔ P' j) (λ j. P j → P' j) (λ j e. e.0) xs same),
        any_map P' P xs (All-weaker (λ j. P' j ↔ P j) (λ j. P' j → P j) (λ j e. e.0) xs back),
      ),
      all_worst V bounded w jobs ready m,
    )
