-- One job through one quarter: whether it is finished, and how far its run has come.
use Rattle.std.proofs.Common.{◌≡◌, ℕ, suc, ◌-◌, eqb, leb, ◌⊎◌, List, [], ◌∷◌, ◌++◌, take, replicate, Some, None, Option, sym, refl, ap, ◌∙◌, ap₂, inl, inr, arith}
use mathlib.Core.Path.{subst⁻¹}
use Rattle.std.specs.List.{AllByRecursion}
use Rattle.std.proofs.lemmas.Bool.{cases_lt, cases_eq, cond-true, cond-false, eq-eqb, ne_eqb, le-leb, lt-leb}
use Rattle.inspections.specs.Verdict.{Verdict}
use Rattle.schedules.specs.Lists.{Any}
use Rattle.calls.specs.declared.call.Job.{Job}
use Rattle.schedules.specs.declared.run.Run.{Run}
use Rattle.schedules.specs.declared.run.Kind.{Kind}
use Rattle.schedules.specs.declared.run.Kind.TheVariants.{Clean, Spoiled}
use Rattle.calls.specs.declared.answer.Event.{Event}
use Rattle.calls.specs.declared.answer.Event.TheVariants.{Idle, Running, Again, Finished}
use Rattle.schedules.specs.World.{begun, started, left_waiting, struck, run_after, event_after, machine_after, event_of, on_machine, Distinct}
use Rattle.schedules.proofs.Steps.{again_goes_on, at_run, idle_goes_on, running_goes_on}

-- a run that is not hit: its quarters were all clean
abbrev CleanSoFar : ℕ → ℕ → List (Kind × Event) → Option ℕ → Type 0
CleanSoFar t gone quarters None = take gone quarters ≡ replicate gone (Clean, Running t)
CleanSoFar t gone quarters (Some h) = Unit {0}

-- where the machine runs the job, its run so far are the last quarters
abbrev pub Progress : Job → List (Kind × Event) → Option Run → Type 0
Progress j quarters None = Unit {0}
Progress j quarters (Some r) = r.job.ticket ≡ j.ticket → CleanSoFar j.ticket r.gone quarters r.hit

abbrev pub On : Job → List Job → Type 0
On j js = Any (λ k. k ≡ j) js

-- after a quarter of the kind the job is on the board still, or it was finished by a whole clean run
abbrev pub Tracked : Job → List (Kind × Event) → Kind → Option Run → Event → List Job → Type 0
Tracked j quarters k machine event ws =
    (On j (on_machine machine ++ ws) × (event ≡ Finished j.ticket → ⊥) × Progress j ((k, event) ∷ quarters) machine)
    ⊎ ((k ≡ Clean) × (event ≡ Finished j.ticket)
    × (take j.length ((Clean, Finished j.ticket) ∷ quarters) ≡ (Clean, Finished j.ticket) ∷ replicate (j.length - 1) (Clean, Running j.ticket)))

other_than : (x j : Job) (js : List Job) → AllByRecursion (λ k. x.ticket ≡ k.ticket → ⊥) js → On j js → x.ticket ≡ j.ticket → ⊥
other_than x j [] a on e = on
other_than x j (k ∷ js) a (inl is) e = a.0 (e ∙ sym (ap (λ y. y.ticket) is))
other_than x j (k ∷ js) a (inr on) e = other_than x j js a.1 on e

same_ticket : (s t : ℕ) → Finished s ≡ Finished t → s ≡ t
same_ticket s t e = cc

tracked_at : (j : Job) (quarters : List (Kind × Event)) (k : Kind) (m m' : Option Run) (e e' : Event) (ws : List Job) → m ≡ m' → e ≡ e' →
    Tracked j quarters k m' e' ws → Tracked j quarters k m e ws
tracked_at j quarters k m m' e e' ws p q h =
    subst⁻¹ (λ x. Tracked j quarters k x e ws) p (subst⁻¹ (λ x. Tracked j quarters k m' x ws) q h)

-- a run that is hit
hit_tracks : (j x : Job) (gone h : ℕ) (ws : List Job) (quarters : List (Kind × Event)) (k : Kind) → On j (x ∷ ws) →
    Tracked j quarters k (run_after x (suc gone) (Some h)) (event_after x (suc gone) (Some h)) ws
hit_tracks j x gone h ws quarters k on =
    elim (cases_eq (suc gone) h) [
      | inl up ↦
          tracked_at j quarters k _ (Some (begun x)) _ (Again x.ticket) ws
          (cond-true (eqb (suc gone) h) _ _ (eq-eqb _ _ up)) (cond-true (eqb (suc gone) h) _ _ (eq-eqb _ _ up))
          (inl (on, again_goes_on x.ticket j.ticket, λ e. refl))
      | inr less ↦
          tracked_at j quarters k _ (at_run x (suc gone) (Some h)) _ (Running x.ticket) ws
          (cond-false (eqb (suc gone) h) _ _ (ne_eqb _ _ less)) (cond-false (eqb (suc gone) h) _ _ (ne_eqb _ _ less))
          (inl (on, running_goes_on x.ticket j.ticket, λ e. tt))
    ]

-- the whole run, where the quarter that ends it is the job's last
whole : (j x : Job) (gone : ℕ) (quarters : List (Kind × Event)) → x ≡ j → suc gone ≡ x.length →
    (x.ticket ≡ j.ticket → take gone quarters ≡ replicate gone (Clean, Running j.ticket)) →
    take j.length ((Clean, Finished j.ticket) ∷ quarters) ≡ (Clean, Finished j.ticket) ∷ replicate (j.length - 1) (Clean, Running j.ticket)
whole j x gone quarters is up so_far =
    let length_is : j.length ≡ suc gone = sym (ap (λ y. y.length) is) ∙ sym up in
    let rest : gone ≡ j.length - 1 = omega arith in
    ap (λ n. take n ((Clean, Finished j.ticket) ∷ quarters)) length_is
    ∙ ap (λ l. (Clean, Finished j.ticket) ∷ l) (so_far (ap (λ y. y.ticket) is) ∙ ap (λ n. replicate n (Clean, Running j.ticket)) rest)

-- a run that is not hit, in a clean quarter
clean_tracks : (j x : Job) (gone : ℕ) (ws : List Job) (quarters : List (Kind × Event)) → On j (x ∷ ws) → Distinct (x ∷ ws) →
    (x.ticket ≡ j.ticket → take gone quarters ≡ replicate gone (Clean, Running j.ticket)) →
    Tracked j quarters Clean (run_after x (suc gone) None) (event_after x (suc gone) None) ws
clean_tracks j x gone ws quarters on distinct so_far =
    elim (cases_eq (suc gone) x.length) [
      | inl up ↦
          tracked_at j quarters Clean _ None _ (Finished x.ticket) ws
          (cond-true (eqb (suc gone) x.length) _ _ (eq-eqb _ _ up)) (cond-true (eqb (suc gone) x.length) _ _ (eq-eqb _ _ up))
          (ended up on)
      | inr less ↦
          tracked_at j quarters Clean _ (at_run x (suc gone) None) _ (Running x.ticket) ws
          (cond-false (eqb (suc gone) x.length) _ _ (ne_eqb _ _ less)) (cond-false (eqb (suc gone) x.length) _ _ (ne_eqb _ _ less))
          (inl (on, running_goes_on x.ticket j.ticket, λ e. ap₂ (λ t l. (Clean, Running t) ∷ l) e (so_far e)))
    ]
  where
    ended : suc gone ≡ x.length → On j (x ∷ ws) → Tracked j quarters Clean None (Finished x.ticket) ws
    ended up (inl is) = inr (refl, ap (λ y. Finished y.ticket) is, whole j x gone quarters is up so_far)
    ended up (inr waits) = inl (waits, λ e. other_than x j ws distinct.0 waits (same_ticket x.ticket j.ticket e), tt)

run_tracks : (V : Verdict) (k : Kind) (j x : Job) (gone : ℕ) (hit : Option ℕ) (ws : List Job) (quarters : List (Kind × Event)) → On j (x ∷ ws) → Distinct (x ∷ ws) →
    (x.ticket ≡ j.ticket → CleanSoFar j.ticket gone quarters hit) →
    Tracked j quarters k (run_after x (suc gone) (struck V k x.length (suc gone) hit)) (event_after x (suc gone) (struck V k x.length (suc gone) hit)) ws
run_tracks V Clean j x gone None ws quarters on distinct so_far = clean_tracks j x gone ws quarters on distinct so_far
run_tracks V Clean j x gone (Some h) ws quarters on distinct so_far = hit_tracks j x gone h ws quarters Clean on
run_tracks V Spoiled j x gone None ws quarters on distinct so_far = hit_tracks j x gone (V x.length (suc gone)) ws quarters Spoiled on
run_tracks V Spoiled j x gone (Some h) ws quarters on distinct so_far = hit_tracks j x gone h ws quarters Spoiled on

pub quarter_tracks : (V : Verdict) (k : Kind) (c : ℕ) (machine : Option Run) (ws : List Job) (j : Job) (quarters : List (Kind × Event)) →
    On j (on_machine machine ++ ws) → Distinct (on_machine machine ++ ws) → Progress j quarters machine →
    Tracked j quarters k (machine_after V k (started c machine ws)) (event_of V k (started c machine ws)) (left_waiting c machine ws)
quarter_tracks V k c (Some r) ws j quarters on distinct progress = run_tracks V k j r.job r.gone r.hit ws quarters on distinct progress
quarter_tracks V k c None [] j quarters on distinct progress = absurd on
quarter_tracks V k c None (x ∷ ws) j quarters on distinct progress =
    elim (cases_lt c x.release) [
      | inl wait ↦
          let not_yet = lt-leb x.release c wait in
          subst⁻¹ (λ m. Tracked j quarters k (machine_after V k m) (event_of V k m) (left_waiting c None (x ∷ ws))) (cond-false (leb x.release c) (Some (begun x)) None not_yet)
          (subst⁻¹ (Tracked j quarters k None Idle) (cond-false (leb x.release c) ws (x ∷ ws) not_yet) (inl (on, idle_goes_on j.ticket, tt)))
      | inr ready ↦
          let now = le-leb x.release c ready in
          subst⁻¹ (λ m. Tracked j quarters k (machine_after V k m) (event_of V k m) (left_waiting c None (x ∷ ws))) (cond-true (leb x.release c) (Some (begun x)) None now)
          (subst⁻¹ (Tracked j quarters k (machine_after V k (Some (begun x))) (event_of V k (Some (begun x)))) (cond-true (leb x.release c) ws (x ∷ ws) now)
          (run_tracks V k j x 0 None ws quarters on distinct (λ e. refl)))
    ]
