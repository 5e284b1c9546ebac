-- A board after one quarter more.
use Rattle.std.proofs.Common.{◌≡◌, ℕ, suc, ◌-◌, ◌<◌, ◌≤◌, ◌⊎◌, List, [], ◌∷◌, length, Some, ap, ◌∙◌, subst, inl, inr, arith}
use mathlib.Core.Path.{subst⁻¹}
use Rattle.std.specs.List.{AllByRecursion}
use Rattle.rules.specs.Model.{Model, Laws, cleans}
use Rattle.rules.specs.Faults.{Allowed, Increasing}
use Rattle.inspections.specs.Verdict.{Verdict, Bounded}
use Rattle.schedules.proofs.States.{allowed_after_wait}
use Rattle.schedules.specs.Lists.{Pairs}
use Rattle.calls.specs.declared.call.Job.{Job}
use Rattle.schedules.specs.World.{World, quarter, board, Distinct, WithinLimits}
use Rattle.schedules.specs.declared.run.Kind.{Kind}
use Rattle.schedules.specs.declared.run.Kind.TheVariants.{Clean, Spoiled}
use Rattle.reckoning.specs.Log.{one_quarter}
use Rattle.schedules.specs.Ready.{Ready, Right}
use Rattle.reckoning.specs.Sound.{Sound}
use Rattle.schedules.proofs.Steps.{shown, Moved, quarter_moves, quarter_stays_right}
use Rattle.schedules.proofs.Planned.{allowed_increasing, right_ready}
use Rattle.schedules.proofs.Times.{InTime, times_of, times_in_time, in_time_kept}

module _ (V : Verdict) (bounded : Bounded V) (k : Kind) (w : World) (ready : Ready w) (state : ℕ) where
  abbrev after : World
  after = one_quarter V k w state

  -- what the quarter does to the jobs and to the finishes foreseen
  pub moves : (f : List ℕ) → Increasing (suc w.clock) f →
      Moved V w.clock after.machine (quarter V k w.clock w.machine w.waiting).event after.waiting (board w) (times_of V w (shown k w.clock f)) f
  moves f i = quarter_moves V bounded k w.clock w.machine w.waiting f ready.run ready.long i

  -- the jobs after the quarter are those before, or those but the first
  pub jobs_after : (board after ≡ board w) ⊎ ((j : Job) × (board w ≡ j ∷ board after))
  jobs_after = elim (moves [] tt) [ inl (never, jobs, times) ↦ inl jobs | inr (j, done, jobs, times) ↦ inr (j, jobs) ]

  pub after_all : (P : Job → Type 0) → AllByRecursion P (board w) → AllByRecursion P (board after)
  after_all P a = elim (jobs_after) [ inl jobs ↦ subst⁻¹ (AllByRecursion P) jobs a | inr (j, jobs) ↦ (subst (AllByRecursion P) jobs a).1 ]

  after_distinct : Distinct (board w) → Distinct (board after)
  after_distinct a = elim (jobs_after) [ inl jobs ↦ subst⁻¹ Distinct jobs a | inr (j, jobs) ↦ (subst Distinct jobs a).1 ]

  pub after_length : length (board after) ≤ length (board w)
  after_length = elim (jobs_after) [
    | inl jobs ↦ let e : length (board after) ≡ length (board w) = ap length jobs in omega arith
    | inr (j, jobs) ↦ let e : length (board w) ≡ length (j ∷ board after) = ap length jobs in omega arith
  ]

  pub after_right : Right w → Right after
  after_right right = record {
    run = quarter_stays_right V bounded k w.clock w.machine w.waiting ready.run ready.long;
    limits = after_all WithinLimits right.limits;
    distinct = after_distinct right.distinct;
  }

  pub after_in_time : (f : List ℕ) → Increasing (suc w.clock) f → Pairs InTime (board w) (times_of V w (shown k w.clock f)) → Pairs InTime (board after) (times_of V after f)
  after_in_time f i p = elim (moves f i) [
    | inl (never, jobs, times) ↦
        subst⁻¹ (λ l. Pairs InTime l (times_of V after f)) jobs (subst⁻¹ (Pairs InTime (board w)) times p)
    | inr (j, done, jobs, times) ↦
        let q = subst (λ l. Pairs InTime l (times_of V w (shown k w.clock f))) jobs p in
        (subst (Pairs InTime (j ∷ board after)) times q).1
  ]

-- a list that is allowed after the quarter, with the quarter itself where it is spoiled
pub allowed_before : (m : Model) (k : Kind) (s s' c : ℕ) → c < 4096 → ((k ≡ Clean) × (s' ≡ m.clean s)) ⊎ ((k ≡ Spoiled) × (m.spoiled s ≡ Some s')) →
    (f : List ℕ) → Allowed m s' (suc c) f → Allowed m s c (shown k c f)
allowed_before m k s s' c early (inl (kind, is)) f a =
    subst⁻¹ (λ x. Allowed m s c (shown x c f)) kind (allowed_after_wait m s c 1 (suc c) (omega arith) f (subst (λ x. Allowed m x (suc c) f) is a))
allowed_before m k s s' c early (inr (kind, permitted)) f a =
    let wait : suc c - c - 1 ≡ 0 = omega arith in
    subst⁻¹ (λ x. Allowed m s c (shown x c f)) kind (s', omega arith, omega arith, ap (λ n. m.spoiled (cleans m n s)) wait ∙ permitted, a)

module _ (m : Model) (laws : Laws m) (V : Verdict) (bounded : Bounded V) (k : Kind) (w : World) (state : ℕ) where
  pub quarter_sound : Sound m V w → (w.clock ≡ 4096 → ⊥) → state < m.size → ((k ≡ Clean) × (state ≡ m.clean w.state)) ⊎ ((k ≡ Spoiled) × (m.spoiled w.state ≡ Some state)) →
      Sound m V (one_quarter V k w state)
  quarter_sound sound early known by_rule =
      let ready = right_ready w sound.right in
      let within = sound.in_time in
      let sooner : w.clock < 4096 = omega arith in
      let right = after_right V bounded k w ready state sound.right in
      let fewer = after_length V bounded k w ready state in
      let few = sound.few in
      record {
        known = known;
        in_time = sooner;
        right = right;
        few = omega arith;
        kept = λ f a.
            let before = allowed_before m k w.state state w.clock sooner by_rule f a in
            let i = allowed_increasing m state (suc w.clock) f a in
            in_time_kept V bounded (one_quarter V k w state) (right_ready (one_quarter V k w state) right) f i
            (after_in_time V bounded k w ready state f i
            (times_in_time V bounded w ready (shown k w.clock f) (allowed_increasing m w.state w.clock (shown k w.clock f) before)
            (sound.kept (shown k w.clock f) before)));
      }
