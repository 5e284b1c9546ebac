-- The board with one more job.
use Rattle.std.proofs.Common.{◌≡◌, ℕ, zero, suc, ◌+◌, ◌-◌, ◌<◌, ◌≤◌, List, [], ◌∷◌, ◌++◌, length, Some, None, Option, sym, refl, ap, subst, inl, inr, arith}
use Rattle.std.specs.List.{AllByRecursion}
use Rattle.std.proofs.ByRecursion.{All-weaker}
use Rattle.std.proofs.lemmas.Bool.{cases_lt}
use Rattle.rules.specs.Model.{Model, Laws}
use Rattle.rules.specs.Faults.{Allowed}
use Rattle.inspections.specs.Verdict.{Verdict, Bounded}
use Rattle.schedules.specs.Runs.{completion}
use Rattle.schedules.specs.Lists.{Pairs}
use Rattle.calls.specs.declared.call.Job.{Job}
use Rattle.schedules.specs.declared.run.Run.{Run}
use Rattle.schedules.specs.World.{World, on_machine, board, Distinct, WithinLimits, RunRight, with_waiting}
use Rattle.schedules.specs.Walk.{Finish, OnTime}
use Rattle.schedules.specs.Plans.{earliest, timed, planned, CanBeLate, EveryPlanFails, proposed}
use Rattle.reckoning.specs.Log.{HasTicket}
use Rattle.schedules.specs.Ready.{Right}
use Rattle.schedules.specs.Foreseen.{begun_at, free, foreseen}
use Rattle.reckoning.specs.Theorems.{DecidesBookings}
use Rattle.schedules.proofs.Lists.{pairs_with, any_map, none_all, first_any, all_by}
use Rattle.schedules.proofs.Planned.{allowed_increasing, right_ready, plan_finishes, earliest_plan, earliest_same}
use Rattle.schedules.proofs.Decides.{decides}
use Rattle.schedules.proofs.Times.{InTime, in_time_kept}
use Rattle.schedules.proofs.Completion.{completion_grows}

pub proposed_all : (P : Job → Type 0) (n : ℕ) (j : Job) (ws : List Job) → P j → AllByRecursion P ws → AllByRecursion P (proposed n j ws)
proposed_all P zero j ws p a = (p, a)
proposed_all P (suc n) j [] p a = (p, tt)
proposed_all P (suc n) j (k ∷ ws) p a = (a.0, proposed_all P n j ws p a.1)

proposed_distinct : (n : ℕ) (j : Job) (ws : List Job) → Distinct ws → AllByRecursion (λ k. k.ticket ≡ j.ticket → ⊥) ws → Distinct (proposed n j ws)
proposed_distinct zero j ws d a = (All-weaker (λ k. k.ticket ≡ j.ticket → ⊥) (λ k. j.ticket ≡ k.ticket → ⊥) (λ k h e. h (sym e)) ws a, d)
proposed_distinct (suc n) j [] d a = (tt, tt)
proposed_distinct (suc n) j (k ∷ ws) d a = (proposed_all (λ x. k.ticket ≡ x.ticket → ⊥) n j ws a.0 d.0, proposed_distinct n j ws d.1 a.1)

length_proposed : (n : ℕ) (j : Job) (ws : List Job) → length (proposed n j ws) ≡ suc (length ws)
length_proposed zero j ws = refl
length_proposed (suc n) j [] = refl
length_proposed (suc n) j (k ∷ ws) = ap suc (length_proposed n j ws)

board_proposed_all : (P : Job → Type 0) (machine : Option Run) (n : ℕ) (j : Job) (ws : List Job) → P j → AllByRecursion P (on_machine machine ++ ws) → AllByRecursion P (on_machine machine ++ proposed n j ws)
board_proposed_all P None n j ws p a = proposed_all P n j ws p a
board_proposed_all P (Some r) n j ws p a = (a.0, proposed_all P n j ws p a.1)

board_proposed_distinct : (machine : Option Run) (n : ℕ) (j : Job) (ws : List Job) → Distinct (on_machine machine ++ ws) →
    AllByRecursion (λ k. k.ticket ≡ j.ticket → ⊥) (on_machine machine ++ ws) → Distinct (on_machine machine ++ proposed n j ws)
board_proposed_distinct None n j ws d a = proposed_distinct n j ws d a
board_proposed_distinct (Some r) n j ws d a = (proposed_all (λ x. r.job.ticket ≡ x.ticket → ⊥) n j ws a.0 d.0, proposed_distinct n j ws d.1 a.1)

pub board_proposed_length : (machine : Option Run) (n : ℕ) (j : Job) (ws : List Job) → length (on_machine machine ++ proposed n j ws) ≡ suc (length (on_machine machine ++ ws))
board_proposed_length None n j ws = length_proposed n j ws
board_proposed_length (Some r) n j ws = ap suc (length_proposed n j ws)

pub proposed_right : (w : World) (place : ℕ) (j : Job) → Right w → WithinLimits j → (HasTicket j.ticket (board w) → ⊥) →
    Right (with_waiting w (proposed place j w.waiting))
proposed_right w place j right limits new = record {
  run = right.run;
  limits = board_proposed_all WithinLimits w.machine place j w.waiting limits right.limits;
  distinct = board_proposed_distinct w.machine place j w.waiting right.distinct (none_all (λ k. k.ticket ≡ j.ticket) (board w) new);
}

-- the machine is not free before the clock
pub free_late : (V : Verdict) → Bounded V → (c : ℕ) (machine : Option Run) → RunRight c machine → (f : List ℕ) → c ≤ free V c machine f
free_late V bounded c None right f = omega arith
free_late V bounded c (Some r) right f = by_hit r.hit
  where
    by_hit : (hit : Option ℕ) → c ≤ completion V r.job.length (begun_at c r.gone hit) f
    by_hit None = omega (arith, right.0, right.1, completion_grows V bounded r.job.length (c - r.gone) f)
    by_hit (Some n) = omega (arith, completion_grows V bounded r.job.length (c + (n - r.gone)) f)

-- where not every plan fails, nobody can be late
module _ (m : Model) (laws : Laws m) (V : Verdict) (bounded : Bounded V) (w : World) (jobs : List Job) (small : w.state < m.size) (right : Right (with_waiting w jobs)) where
  -- in the earliest plan the finishes are those of the board itself
  earliest_times : (machine : Option Run) (f : List ℕ) → w.clock ≤ free V w.clock machine f →
      foreseen V w.clock machine (timed jobs (earliest w.clock jobs)) f ≡ foreseen V w.clock machine jobs f
  earliest_times None f late = earliest_same V bounded w.clock w.clock jobs f late
  earliest_times (Some r) f late = ap (λ l. free V w.clock (Some r) f ∷ l) (earliest_same V bounded w.clock (free V w.clock (Some r) f) jobs f late)

  pub in_time_unless_every_plan_fails : (EveryPlanFails m V w jobs → ⊥) → (f : List ℕ) → Allowed m w.state w.clock f → AllByRecursion (OnTime V f (with_waiting w jobs)) (board (with_waiting w jobs))
  in_time_unless_every_plan_fails some f a =
      let xs = on_machine w.machine ++ jobs in
      let first = earliest w.clock jobs in
      let i = allowed_increasing m w.state w.clock f a in
      let ready = right_ready (with_waiting w jobs) right in
      let times = foreseen V w.clock w.machine (timed jobs first) f in
      let never = none_all (CanBeLate m V (planned w jobs first)) xs (λ fails. some ((decides m laws V bounded w jobs small right).0.1 fails)) in
      let in_time = pairs_with (λ j q. Finish V f (planned w jobs first) j.ticket q) InTime (λ j. CanBeLate m V (planned w jobs first) j → ⊥)
      (λ j q ends not. elim (cases_lt j.due q) [ inl late ↦ absurd (not (f, a, (q, ends, late))) | inr by ↦ by ])
      xs times (plan_finishes V bounded w jobs first ready (earliest_plan w.clock jobs) f i) never in
      in_time_kept V bounded (with_waiting w jobs) ready f i
      (subst (Pairs InTime xs) (earliest_times w.machine f (free_late V bounded w.clock w.machine right.run f)) in_time)

pub decides_bookings : (m : Model) → Laws m → DecidesBookings m
decides_bookings m laws V bounded w room place j sound (limits, new, few, near, table) =
    let jobs = proposed place j w.waiting in
    let first = earliest w.clock jobs in
    let xs = on_machine w.machine ++ jobs in
    let d = decides m laws V bounded w jobs sound.known (proposed_right w place j sound.right limits new) in (
      λ t late.
          let fails = any_map (λ x. (x.ticket ≡ t) × CanBeLate m V (planned w jobs first) x) (CanBeLate m V (planned w jobs first)) xs
          (all_by (λ x. (x.ticket ≡ t) × CanBeLate m V (planned w jobs first) x → CanBeLate m V (planned w jobs first) x) (λ x p. p.1) xs)
          (first_any (CanBeLate m V (planned w jobs first)) (λ x. x.ticket ≡ t) xs late) in
          inr (λ no. no limits, inr (new, inr (λ full. omega arith, inr (λ above. omega arith, inr (λ short. omega arith, inl (d.0.1 fails, (t, late, (refl, refl)))))))),
      λ c holds worst. inr (λ no. no limits, inr (new, inr (λ full. omega arith, inr (λ above. omega arith, inr (λ short. omega arith, inr (λ every. holds (d.0.0 every), (c, worst, refl, refl))))))),
    )
