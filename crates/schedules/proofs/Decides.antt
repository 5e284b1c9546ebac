-- The earliest plan decides.
use Rattle.std.proofs.Common.{◌≡◌, ℕ, zero, suc, ◌<◌, ◌≤◌, ◌⊎◌, List, [], ◌∷◌, ◌++◌, length, get_or, take, Some, None, Option, refl, inl, inr, arith}
use Rattle.std.specs.List.{AllByRecursion}
use Rattle.std.proofs.ByRecursion.{All-weaker, All-get_or, All-from_get_or}
use Rattle.rules.specs.Model.{Model, Laws}
use Rattle.rules.specs.Faults.{Allowed}
use Rattle.inspections.specs.Verdict.{Verdict, Bounded}
use Rattle.schedules.proofs.Following.{Outlasts}
use Rattle.calls.specs.declared.call.Job.{Job}
use Rattle.schedules.specs.declared.run.Run.{Run}
use Rattle.schedules.specs.World.{World, nobody, on_machine, RunRight, WithinLimits, with_waiting}
use Rattle.schedules.specs.Walk.{Gives, Finish}
use Rattle.schedules.specs.Plans.{Plan, earliest, timed, planned, CanBeLate}
use Rattle.schedules.specs.Ready.{Right}
use Rattle.schedules.specs.Foreseen.{slots, foreseen}
use Rattle.schedules.specs.Theorems.{Decides, PlanArgument}
use Rattle.schedules.proofs.Lists.{pairs_at, any_map, first_any}
use Rattle.schedules.proofs.Busy.{busy_at}
use Rattle.schedules.proofs.Planned.{allowed_increasing, least_unique, right_ready, plan_finishes, earliest_plan, earliest_first, length_timed}

module _ (m : Model) (laws : Laws m) (V : Verdict) (bounded : Bounded V) where
  -- job i of one board against job i of another with the same machine
  pub foreseen_later : (s c : ℕ) → s < m.size → (machine : Option Run) → RunRight c machine → (js ks : List Job) →
      ((b : ℕ) → b < length (slots js) → (b < length (slots ks)) × Outlasts (take (suc b) (slots js)) (take (suc b) (slots ks))) →
      (i : ℕ) → i < length (on_machine machine ++ js) → length (slots js) ≡ length js → (f : List ℕ) → Allowed m s c f →
      (h : List ℕ) × Allowed m s c h × ((get_or (foreseen V c machine js f) i 0 ≤ get_or (foreseen V c machine ks h) i 0) ⊎ (4096 < get_or (foreseen V c machine ks h) i 0))
  foreseen_later s c small None right js ks outlasts i within same f a =
      let o = outlasts i (omega arith) in
      busy_at m laws V bounded s c small None right (slots js) (slots ks) i i (omega arith) o.0 o.1 f a
  foreseen_later s c small (Some r) right js ks outlasts zero within same f a = (f, a, inl (omega arith))
  foreseen_later s c small (Some r) right js ks outlasts (suc b) within same f a =
      let o = outlasts b (omega arith) in
      busy_at m laws V bounded s c small (Some r) right (slots js) (slots ks) b b (omega arith) o.0 o.1 f a

pub length_slots : (js : List Job) → length (slots js) ≡ length js
length_slots [] = refl
length_slots (j ∷ js) = let e = length_slots js in omega arith

length_behind : (machine : Option Run) (js ks : List Job) → length js ≡ length ks → length (on_machine machine ++ js) ≡ length (on_machine machine ++ ks)
length_behind None js ks e = e
length_behind (Some r) js ks e = omega arith

module _ (m : Model) (laws : Laws m) (V : Verdict) (bounded : Bounded V) (w : World) (jobs : List Job) (small : w.state < m.size) (right : Right (with_waiting w jobs))
    (starts : List ℕ) (plan : Plan w.clock jobs starts) where
  abbrev first_starts : List ℕ
  first_starts = earliest w.clock jobs

  abbrev StaysLate : Job → Type 0
  StaysLate j = CanBeLate m V (planned w jobs first_starts) j → CanBeLate m V (planned w jobs starts) j

  late_at : (i : ℕ) → i < length (on_machine w.machine ++ jobs) → StaysLate (get_or (on_machine w.machine ++ jobs) i nobody)
  late_at i within (f, a, (q, ends, late)) =
      let c = w.clock in
      let xs = on_machine w.machine ++ jobs in
      let ready = right_ready (with_waiting w jobs) right in
      let first = earliest_plan c jobs in
      let times = foreseen V c w.machine (timed jobs first_starts) f in
      let foretold = pairs_at (λ j n. Finish V f (planned w jobs first_starts) j.ticket n) xs times i nobody 0 within
      (plan_finishes V bounded w jobs first_starts ready first f (allowed_increasing m w.state c f a)) in
      let same : q ≡ get_or times i 0 = least_unique (Gives V f c w.machine (timed jobs first_starts) (get_or xs i nobody).ticket) q (get_or times i 0) ends foretold in
      let lengths = length_timed c jobs first_starts first in
      let lengths' = length_timed c jobs starts plan in
      let l = length_slots (timed jobs first_starts) in
      let found = foreseen_later m laws V bounded w.state c small w.machine right.run (timed jobs first_starts) (timed jobs starts)
      (λ b h. (omega arith, earliest_first (suc b) c c jobs starts (omega arith) plan)) i
      (rw (length_behind w.machine (timed jobs first_starts) jobs (omega arith)) within) l f a in
      let h = found.0 in
      let times' = foreseen V c w.machine (timed jobs starts) h in
      let foretold' = pairs_at (λ j n. Finish V h (planned w jobs starts) j.ticket n) xs times' i nobody 0 within
      (plan_finishes V bounded w jobs starts ready plan h (allowed_increasing m w.state c h found.1)) in
      let due = (All-get_or WithinLimits xs i nobody within right.limits).3 in
      let over : (get_or xs i nobody).due < get_or times' i 0 = elim found.2 [ inl no_earlier ↦ omega arith | inr past ↦ omega arith ] in
      (h, found.1, (get_or times' i 0, foretold', over))

  pub stays_late : AllByRecursion StaysLate (on_machine w.machine ++ jobs)
  stays_late = All-from_get_or StaysLate (on_machine w.machine ++ jobs) nobody late_at

pub plan_argument : (m : Model) → Laws m → PlanArgument m
plan_argument m laws V bounded w jobs small right t late starts plan =
    let xs = on_machine w.machine ++ jobs in
    let first = earliest w.clock jobs in
    any_map (λ j. (j.ticket ≡ t) × CanBeLate m V (planned w jobs first) j) (λ j. (j.ticket ≡ t) × CanBeLate m V (planned w jobs starts) j) xs
    (All-weaker (λ j. CanBeLate m V (planned w jobs first) j → CanBeLate m V (planned w jobs starts) j)
    (λ j. (j.ticket ≡ t) × CanBeLate m V (planned w jobs first) j → (j.ticket ≡ t) × CanBeLate m V (planned w jobs starts) j)
    (λ j step (is, can). (is, step can)) xs (stays_late m laws V bounded w jobs small right starts plan))
    late

pub decides : (m : Model) → Laws m → Decides m
decides m laws V bounded w jobs small right =
    let xs = on_machine w.machine ++ jobs in
    let first = earliest w.clock jobs in (
      (
        λ every. every first (earliest_plan w.clock jobs),
        λ fails starts plan.
            any_map (CanBeLate m V (planned w jobs first)) (CanBeLate m V (planned w jobs starts)) xs (stays_late m laws V bounded w jobs small right starts plan) fails,
      ),
      λ t late starts plan.
          plan_argument m laws V bounded w jobs small right t (first_any (CanBeLate m V (planned w jobs first)) (λ j. j.ticket ≡ t) xs late) starts plan,
    )
