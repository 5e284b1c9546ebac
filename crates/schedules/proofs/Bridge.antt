-- The walk of a board finishes each job in the quarter that is foreseen.
use Rattle.std.proofs.Common.{◌≡◌, ℕ, zero, suc, ◌+◌, ◌-◌, ◌<◌, ◌≤◌, max, eqb, List, [], ◌∷◌, ◌++◌, Some, None, Option, refl, ap, ◌∙◌, subst, inl, inr, arith}
use mathlib.Core.Path.{subst⁻¹}
use Rattle.std.specs.List.{AllByRecursion}
use Rattle.std.proofs.lemmas.Bool.{cases_lt, cond-true, cond-false, eq-eqb, ne_eqb}
use Rattle.std.proofs.ByRecursion.{All-weaker}
use Rattle.inspections.specs.Verdict.{Verdict, Bounded}
use Rattle.schedules.specs.Runs.{completion}
use Rattle.rules.specs.Faults.{Increasing}
use Rattle.schedules.specs.Clear.{Least}
use Rattle.schedules.proofs.Completion.{completion_grows}
use Rattle.schedules.specs.Lists.{Pairs}
use Rattle.calls.specs.declared.call.Job.{Job}
use Rattle.schedules.specs.declared.run.Run.{Run}
use Rattle.schedules.specs.declared.run.Kind.{Kind}
use Rattle.schedules.specs.declared.run.Kind.TheVariants.{Clean, Spoiled}
use Rattle.calls.specs.declared.answer.Event.{Event}
use Rattle.calls.specs.declared.answer.Event.TheVariants.{Finished}
use Rattle.schedules.specs.World.{quarter, on_machine, Distinct, RunRight, HitRight}
use Rattle.schedules.specs.Walk.{kind_in, Gives}
use Rattle.schedules.specs.Foreseen.{begun_at, foreseen}
use Rattle.schedules.specs.Theorems.{Bridge}
use Rattle.schedules.proofs.Lists.{pairs_map, greatest, within_greatest, all_by}
use Rattle.schedules.proofs.Steps.{shown, Long, Moved, quarter_moves, quarter_stays_right}

-- no quarter up to c is among faults after c
kind_ahead : (c : ℕ) (g : List ℕ) → Increasing c g → (t : ℕ) → t ≤ c → kind_in g t ≡ Clean
kind_ahead c [] i t h = refl
kind_ahead c (q ∷ g) i t h = cond-false (eqb q t) Spoiled (kind_in g t) (ne_eqb q t (λ e. omega (arith, i.0))) ∙ kind_ahead q g i.1 t (omega (arith, i.0))

-- the faults after the clock c begin with the quarter after it, or are all after that
pub record Ahead (c : ℕ) (g : List ℕ) : Type 0 where
  pub kind : Kind
  pub rest : List ℕ
  pub is : g ≡ shown kind c rest
  pub next : kind_in g (suc c) ≡ kind
  pub increasing : Increasing (suc c) rest
  pub same : (t : ℕ) → suc c < t → kind_in g t ≡ kind_in rest t

pub ahead : (c : ℕ) (g : List ℕ) → Increasing c g → Ahead c g
ahead c [] i = record { kind = Clean; rest = []; is = refl; next = refl; increasing = tt; same = λ t h. refl }
ahead c (q ∷ g) i = elim (cases_lt (suc c) q) [
  | inl later ↦ record {
    kind = Clean;
    rest = q ∷ g;
    is = refl;
    next = kind_ahead (suc c) (q ∷ g) (later, i.1) (suc c) (omega arith);
    increasing = (later, i.1);
    same = λ t h. refl;
  }
  | inr now ↦
      let here : q ≡ suc c = omega (arith, i.0) in record {
        kind = Spoiled;
        rest = g;
        is = ap (λ x. x ∷ g) here;
        next = cond-true (eqb q (suc c)) Spoiled (kind_in g (suc c)) (eq-eqb q (suc c) here);
        increasing = subst (λ x. Increasing x g) here i.1;
        same = λ t h. cond-false (eqb q t) Spoiled (kind_in g t) (ne_eqb q t (λ e. omega arith));
      }
]

-- the walk finishes the job in the quarter q
abbrev pub Ends : Verdict → List ℕ → ℕ → Option Run → List Job → Job → ℕ → Type 0
Ends V f c machine ws j q = Least (Gives V f c machine ws j.ticket) q

module _ (V : Verdict) where
  abbrev next_machine : Kind → ℕ → Option Run → List Job → Option Run
  next_machine k c machine ws = (quarter V k c machine ws).machine

  abbrev next_waiting : Kind → ℕ → Option Run → List Job → List Job
  next_waiting k c machine ws = (quarter V k c machine ws).waiting

  -- Finished in this quarter
  pub finish_now : (f : List ℕ) (c : ℕ) (machine : Option Run) (ws : List Job) (t : ℕ) → (quarter V (kind_in f (suc c)) c machine ws).event ≡ Finished t →
      Least (Gives V f c machine ws t) (suc c)
  finish_now f c machine ws t e = ((0, omega arith, e), λ k h (n, at, _). omega arith)

  -- not finished in this quarter, but in a later one
  pub finish_later : (f : List ℕ) (c : ℕ) (machine : Option Run) (ws : List Job) (t q : ℕ) → ((quarter V (kind_in f (suc c)) c machine ws).event ≡ Finished t → ⊥) →
      Least (Gives V f (suc c) (next_machine (kind_in f (suc c)) c machine ws) (next_waiting (kind_in f (suc c)) c machine ws) t) q →
      Least (Gives V f c machine ws t) q
  finish_later f c machine ws t q never (gives, least) = ((suc gives.0, omega (arith, gives.1), gives.2), before)
    where
      before : (k : ℕ) → k < q → Gives V f c machine ws t k → ⊥
      before k h (zero, at, e) = never e
      before k h (suc n, at, e) = least k h (n, omega arith, e)

  module _ (bounded : Bounded V) where
    -- every finish that is foreseen is after the clock
    none_due : (c : ℕ) (machine : Option Run) (ws : List Job) (g : List ℕ) (R : Job → ℕ → Type 0) → RunRight c machine → AllByRecursion Long (on_machine machine ++ ws) →
        AllByRecursion (λ q. q ≤ c + 0) (foreseen V c machine ws g) → Pairs R (on_machine machine ++ ws) (foreseen V c machine ws g)
    none_due c None [] g R right long within = tt
    none_due c None (j ∷ ws) g R right long within =
        absurd (omega (arith, long.0, within.0, completion_grows V bounded j.length (max j.release c) g))
    none_due c (Some r) ws g R right long within =
        absurd (late r.hit right.2 within.0)
      where
        late : (hit : Option ℕ) → HitRight r.job.length r.gone hit → completion V r.job.length (begun_at c r.gone hit) g ≤ c + 0 → ⊥
        late None h k = omega (arith, right.0, right.1, k, completion_grows V bounded r.job.length (c - r.gone) g)
        late (Some n) h k = omega (arith, right.0, k, completion_grows V bounded r.job.length (c + (n - r.gone)) g)

    -- the walk under f, where the faults of f after the clock c are those of g
    foretold : (N : ℕ) (f g : List ℕ) (c : ℕ) (machine : Option Run) (ws : List Job) → Increasing c g → ((t : ℕ) → c < t → kind_in f t ≡ kind_in g t) →
        RunRight c machine → AllByRecursion Long (on_machine machine ++ ws) → Distinct (on_machine machine ++ ws) →
        AllByRecursion (λ q. q ≤ c + N) (foreseen V c machine ws g) →
        Pairs (Ends V f c machine ws) (on_machine machine ++ ws) (foreseen V c machine ws g)
    foretold zero f g c machine ws i same right long distinct within = none_due c machine ws g _ right long within
    foretold (suc N) f g c machine ws i same right long distinct within =
        let a = ahead c g i in
        let k : kind_in f (suc c) ≡ a.kind = same (suc c) (omega arith) ∙ a.next in
        let K = kind_in f (suc c) in
        let m' = next_machine K c machine ws in
        let ws' = next_waiting K c machine ws in
        let E = (quarter V K c machine ws).event in
        let moved : Moved V c m' E ws' (on_machine machine ++ ws) (foreseen V c machine ws g) a.rest =
        subst⁻¹ (λ x. Moved V c (next_machine x c machine ws) (quarter V x c machine ws).event (next_waiting x c machine ws) (on_machine machine ++ ws) (foreseen V c machine ws g) a.rest) k
        (subst⁻¹ (λ l. Moved V c (next_machine a.kind c machine ws) (quarter V a.kind c machine ws).event (next_waiting a.kind c machine ws) (on_machine machine ++ ws) (foreseen V c machine ws l) a.rest) a.is
        (quarter_moves V bounded a.kind c machine ws a.rest right long a.increasing)) in
        let right' = quarter_stays_right V bounded K c machine ws right long in
        let jobs' = on_machine m' ++ ws' in
        let times' = foreseen V (suc c) m' ws' a.rest in
        let rest : AllByRecursion Long jobs' → Distinct jobs' → AllByRecursion (λ q. q ≤ c + suc N) times' → Pairs (Ends V f (suc c) m' ws') jobs' times' =
        λ long' distinct' within'.
        foretold N f a.rest (suc c) m' ws' a.increasing (λ t h. same t (omega arith) ∙ a.same t h) right' long' distinct'
        (All-weaker (λ q. q ≤ c + suc N) (λ q. q ≤ suc c + N) (λ q h. omega arith) times' within') in
        let later : (x : Job) → (E ≡ Finished x.ticket → ⊥) → (q : ℕ) → Ends V f (suc c) m' ws' x q → Ends V f c machine ws x q =
        λ x never q. finish_later f c machine ws x.ticket q never in
        elim moved [
          | inl (never, jobs, times) ↦
              let found = rest (subst⁻¹ (AllByRecursion Long) jobs long) (subst⁻¹ Distinct jobs distinct) (subst⁻¹ (AllByRecursion (λ q. q ≤ c + suc N)) times within) in
              let mapped = pairs_map (Ends V f (suc c) m' ws') (Ends V f c machine ws) jobs' times'
              (all_by (λ x. (q : ℕ) → Ends V f (suc c) m' ws' x q → Ends V f c machine ws x q) (λ x. later x (never x.ticket)) jobs') found in
              subst (λ l. Pairs (Ends V f c machine ws) l (foreseen V c machine ws g)) jobs (subst (λ l. Pairs (Ends V f c machine ws) jobs' l) times mapped)
          | inr (j, done, jobs, times) ↦
              let apart = subst Distinct jobs distinct in
              let found = rest (subst (AllByRecursion Long) jobs long).1 apart.1 (subst (AllByRecursion (λ q. q ≤ c + suc N)) times within).1 in
              let mapped = pairs_map (Ends V f (suc c) m' ws') (Ends V f c machine ws) jobs' times'
              (All-weaker (λ x. j.ticket ≡ x.ticket → ⊥) (λ x. (q : ℕ) → Ends V f (suc c) m' ws' x q → Ends V f c machine ws x q)
              (λ x other. later x (λ e. other (other_ticket E j.ticket x.ticket done e))) jobs' apart.0) found in
              subst⁻¹ (λ l. Pairs (Ends V f c machine ws) l (foreseen V c machine ws g)) jobs
              (subst⁻¹ (λ l. Pairs (Ends V f c machine ws) (j ∷ jobs') l) times (finish_now f c machine ws j.ticket done, mapped))
        ]
      where
        other_ticket : (e : Event) (s t : ℕ) → e ≡ Finished s → e ≡ Finished t → s ≡ t
        other_ticket e s t p q = cc

pub bridge : Bridge
bridge V bounded w ready f i =
    let times = foreseen V w.clock w.machine w.waiting f in
    foretold V bounded (greatest times) f f w.clock w.machine w.waiting i (λ t h. refl) ready.run ready.long ready.distinct
    (within_greatest times (w.clock + greatest times) (omega arith))
