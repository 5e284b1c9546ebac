-- One quarter of a board, and what it does to the finishes that are foreseen.
use Rattle.std.proofs.Common.{◌≡◌, ℕ, suc, ◌+◌, ◌-◌, ◌<◌, ◌≤◌, max, eqb, leb, ◌⊎◌, List, [], ◌∷◌, ◌++◌, Some, None, Option, sym, refl, ap, ◌∙◌, inl, inr, arith}
use mathlib.Core.Path.{subst⁻¹}
use Rattle.std.specs.List.{AllByRecursion}
use Rattle.std.proofs.lemmas.Bool.{cases_lt, cases_eq, cond-true, cond-false, cond_both, eqb-false, eq-eqb, ne_eqb, le-leb, lt-leb}
use Rattle.inspections.specs.Verdict.{Verdict, Bounded}
use Rattle.schedules.specs.Runs.{completion, finishes, Slot}
use Rattle.rules.specs.Faults.{Increasing}
use Rattle.schedules.proofs.States.{lasts_within}
use Rattle.schedules.specs.Futures.{Beyond}
use Rattle.schedules.proofs.Completion.{completion_skip, completion_hit, completion_before, completion_grows}
use Rattle.calls.specs.declared.call.Job.{Job}
use Rattle.schedules.specs.declared.run.Run.{Run}
use Rattle.schedules.specs.declared.run.Kind.{Kind}
use Rattle.schedules.specs.declared.run.Kind.TheVariants.{Clean, Spoiled}
use Rattle.calls.specs.declared.answer.Event.{Event}
use Rattle.calls.specs.declared.answer.Event.TheVariants.{Idle, Running, Again, Finished}
use Rattle.schedules.specs.World.{begun, started, left_waiting, struck, run_after, event_after, machine_after, event_of, on_machine, HitRight, RunRight}
use Rattle.schedules.specs.Foreseen.{slots, begun_at, foreseen}

-- the faults after the clock c, where the quarter after it is of the kind
abbrev pub shown : Kind → ℕ → List ℕ → List ℕ
shown Clean c g = g
shown Spoiled c g = suc c ∷ g

pub increasing_beyond : (c : ℕ) (g : List ℕ) → Increasing c g → Beyond c g
increasing_beyond c [] i = tt
increasing_beyond c (q ∷ g) i = i.0

abbrev pub Long : Job → Type 0
Long j = 1 ≤ j.length

-- a run's finish, and those of the jobs behind it
abbrev times_from : Verdict → ℕ → ℕ → List Job → List ℕ → List ℕ
times_from V p S ws g = completion V p S g ∷ finishes V (completion V p S g) (slots ws) g

-- What a quarter makes of the jobs and of their finishes: nobody is finished, or the first job is.
abbrev pub Moved : Verdict → ℕ → Option Run → Event → List Job → List Job → List ℕ → List ℕ → Type 0
Moved V c machine event ws jobs times g =
    (((t : ℕ) → event ≡ Finished t → ⊥) × (on_machine machine ++ ws ≡ jobs) × (foreseen V (suc c) machine ws g ≡ times))
    ⊎ ((j : Job) × (event ≡ Finished j.ticket) × (jobs ≡ j ∷ (on_machine machine ++ ws)) × (times ≡ suc c ∷ foreseen V (suc c) machine ws g))

pub running_goes_on : (t s : ℕ) → Running t ≡ Finished s → ⊥
running_goes_on t s e = let z : ◌≡◌ {A = ℕ} 0 1 = cc in omega arith

pub again_goes_on : (t s : ℕ) → Again t ≡ Finished s → ⊥
again_goes_on t s e = let z : ◌≡◌ {A = ℕ} 0 1 = cc in omega arith

pub idle_goes_on : (s : ℕ) → Idle ≡ Finished s → ⊥
idle_goes_on s e = let z : ◌≡◌ {A = ℕ} 0 1 = cc in omega arith

-- a run of the job, with so many quarters gone
abbrev pub at_run : Job → ℕ → Option ℕ → Option Run
at_run j gone hit = Some (record { job = j; gone = gone; hit = hit })

module _ (V : Verdict) (bounded : Bounded V) where
  moved_at : (c : ℕ) (m m' : Option Run) (e e' : Event) (ws jobs : List Job) (times g : List ℕ) → m ≡ m' → e ≡ e' →
      Moved V c m' e' ws jobs times g → Moved V c m e ws jobs times g
  moved_at c m m' e e' ws jobs times g p q h =
      subst⁻¹ (λ x. Moved V c x e ws jobs times g) p (subst⁻¹ (λ x. Moved V c m' x ws jobs times g) q h)

  pub finishes_skip : (T q : ℕ) (js : List Slot) (g : List ℕ) → q ≤ T → finishes V T js (q ∷ g) ≡ finishes V T js g
  finishes_skip T q [] g h = refl
  finishes_skip T q (j ∷ js) g h =
      ap (λ C. C ∷ finishes V C js (q ∷ g)) (completion_skip V j.run (max j.start T) q g (omega arith))
      ∙ ap (λ l. completion V j.run (max j.start T) g ∷ l)
      (finishes_skip (completion V j.run (max j.start T) g) q js g (omega (arith, completion_grows V bounded j.run (max j.start T) g)))

  times_skip : (p S q : ℕ) (ws : List Job) (g : List ℕ) → q ≤ S → times_from V p S ws (q ∷ g) ≡ times_from V p S ws g
  times_skip p S q ws g h =
      ap (λ C. C ∷ finishes V C (slots ws) (q ∷ g)) (completion_skip V p S q g h)
      ∙ ap (λ l. completion V p S g ∷ l) (finishes_skip (completion V p S g) q (slots ws) g (omega (arith, completion_grows V bounded p S g)))

  times_hit : (p S q S' : ℕ) (ws : List Job) (g : List ℕ) → S < q → q ≤ S + p → q ≤ S' → S + V p (q - S) ≡ S' → times_from V p S ws (q ∷ g) ≡ times_from V p S' ws g
  times_hit p S q S' ws g h k l e =
      ap (λ C. C ∷ finishes V C (slots ws) (q ∷ g)) (completion_hit V p S q g h k ∙ ap (λ n. completion V p n g) e)
      ∙ ap (λ r. completion V p S' g ∷ r) (finishes_skip (completion V p S' g) q (slots ws) g (omega (arith, completion_grows V bounded p S' g)))

  same_times : (p S S' : ℕ) (ws : List Job) (g : List ℕ) → S ≡ S' → times_from V p S ws g ≡ times_from V p S' ws g
  same_times p S S' ws g e = ap (λ x. times_from V p x ws g) e

  -- a run that is hit, in a quarter after which it is given up, or not
  hit_moves : (c : ℕ) (j : Job) (gone h : ℕ) (ws : List Job) (times g : List ℕ) → gone < h → times ≡ times_from V j.length (c + (h - gone)) ws g →
      Moved V c (run_after j (suc gone) (Some h)) (event_after j (suc gone) (Some h)) ws (j ∷ ws) times g
  hit_moves c j gone h ws times g short e =
      elim (cases_eq (suc gone) h) [
        | inl up ↦
            moved_at c _ (Some (begun j)) _ (Again j.ticket) ws (j ∷ ws) times g
            (cond-true (eqb (suc gone) h) _ _ (eq-eqb _ _ up)) (cond-true (eqb (suc gone) h) _ _ (eq-eqb _ _ up))
            (inl (again_goes_on j.ticket, refl, same_times j.length (suc c - 0) (c + (h - gone)) ws g (omega arith) ∙ sym e))
        | inr on ↦
            moved_at c _ (at_run j (suc gone) (Some h)) _ (Running j.ticket) ws (j ∷ ws) times g
            (cond-false (eqb (suc gone) h) _ _ (ne_eqb _ _ on)) (cond-false (eqb (suc gone) h) _ _ (ne_eqb _ _ on))
            (inl (running_goes_on j.ticket, refl, same_times j.length (suc c + (h - suc gone)) (c + (h - gone)) ws g (omega arith) ∙ sym e))
      ]

  -- a run that is not hit, in a clean quarter
  clean_moves : (c : ℕ) (j : Job) (gone : ℕ) (ws : List Job) (g : List ℕ) → gone < j.length → gone ≤ c → Increasing (suc c) g →
      Moved V c (run_after j (suc gone) None) (event_after j (suc gone) None) ws (j ∷ ws) (times_from V j.length (c - gone) ws g) g
  clean_moves c j gone ws g short before i =
      elim (cases_eq (suc gone) j.length) [
        | inl up ↦
            let over : c - gone + j.length ≡ suc c = omega arith in
            let beyond : Beyond (c - gone + j.length) g = rw over (increasing_beyond (suc c) g i) in
            moved_at c _ None _ (Finished j.ticket) ws (j ∷ ws) _ g
            (cond-true (eqb (suc gone) j.length) _ _ (eq-eqb _ _ up)) (cond-true (eqb (suc gone) j.length) _ _ (eq-eqb _ _ up))
            (inr (j, refl, refl, ap (λ T. T ∷ finishes V T (slots ws) g) (completion_before V j.length (c - gone) g beyond ∙ over)))
        | inr on ↦
            moved_at c _ (at_run j (suc gone) None) _ (Running j.ticket) ws (j ∷ ws) _ g
            (cond-false (eqb (suc gone) j.length) _ _ (ne_eqb _ _ on)) (cond-false (eqb (suc gone) j.length) _ _ (ne_eqb _ _ on))
            (inl (running_goes_on j.ticket, refl, same_times j.length (suc c - suc gone) (c - gone) ws g (omega arith)))
      ]

  -- one quarter of a run
  run_moves : (k : Kind) (c : ℕ) (j : Job) (gone : ℕ) (hit : Option ℕ) (ws : List Job) (g : List ℕ) → gone < j.length → gone ≤ c →
      HitRight j.length gone hit → Increasing (suc c) g →
      Moved V c (run_after j (suc gone) (struck V k j.length (suc gone) hit)) (event_after j (suc gone) (struck V k j.length (suc gone) hit)) ws (j ∷ ws)
      (times_from V j.length (begun_at c gone hit) ws (shown k c g)) g
  run_moves Clean c j gone None ws g short before right i = clean_moves c j gone ws g short before i
  run_moves Clean c j gone (Some h) ws g short before right i = hit_moves c j gone h ws _ g right.0 refl
  run_moves Spoiled c j gone (Some h) ws g short before right i =
      hit_moves c j gone h ws _ g right.0 (times_skip j.length (c + (h - gone)) (suc c) ws g (omega (arith, right.0)))
  run_moves Spoiled c j gone None ws g short before right i =
      let p = j.length in
      let x = suc gone in
      let lasts = lasts_within bounded p x (omega arith) (omega arith) in
      let place : suc c - (c - gone) ≡ x = omega arith in
      let from : c - gone + V p (suc c - (c - gone)) ≡ c + (V p x - gone) = ap (λ n. c - gone + V p n) place ∙ omega arith in
      hit_moves c j gone (V p x) ws _ g (omega arith)
      (times_hit p (c - gone) (suc c) (c + (V p x - gone)) ws g (omega arith) (omega arith) (omega arith) from)

  -- an idle quarter: nobody waits, or the first waiting job is not released yet
  idle_moves : (k : Kind) (c : ℕ) (j : Job) (ws : List Job) (g : List ℕ) → c < j.release →
      foreseen V (suc c) None (j ∷ ws) g ≡ foreseen V c None (j ∷ ws) (shown k c g)
  idle_moves Clean c j ws g h = same_times j.length (max j.release (suc c)) (max j.release c) ws g (omega arith)
  idle_moves Spoiled c j ws g h =
      same_times j.length (max j.release (suc c)) (max j.release c) ws g (omega arith)
      ∙ sym (times_skip j.length (max j.release c) (suc c) ws g (omega arith))

  -- a run stays as it should be
  hit_stays_right : (c : ℕ) (j : Job) (gone h : ℕ) → gone ≤ c → gone < h → h ≤ j.length → RunRight (suc c) (run_after j (suc gone) (Some h))
  hit_stays_right c j gone h before more most =
      cond_both (eqb (suc gone) h) (Some (begun j)) (at_run j (suc gone) (Some h)) (RunRight (suc c))
      (λ e. (omega arith, omega arith, tt))
      (λ e. let on = eqb-false (suc gone) h e in (omega arith, omega arith, (omega arith, most)))

  run_stays_right : (k : Kind) (c : ℕ) (j : Job) (gone : ℕ) (hit : Option ℕ) → gone < j.length → gone ≤ c → HitRight j.length gone hit →
      RunRight (suc c) (run_after j (suc gone) (struck V k j.length (suc gone) hit))
  run_stays_right Clean c j gone None short before right =
      cond_both (eqb (suc gone) j.length) None (at_run j (suc gone) None) (RunRight (suc c))
      (λ e. tt)
      (λ e. let on = eqb-false (suc gone) j.length e in (omega arith, omega arith, tt))
  run_stays_right Clean c j gone (Some h) short before right = hit_stays_right c j gone h before right.0 right.1
  run_stays_right Spoiled c j gone (Some h) short before right = hit_stays_right c j gone h before right.0 right.1
  run_stays_right Spoiled c j gone None short before right =
      let lasts = lasts_within bounded j.length (suc gone) (omega arith) (omega arith) in
      hit_stays_right c j gone (V j.length (suc gone)) before (omega arith) (omega arith)

  pub quarter_stays_right : (k : Kind) (c : ℕ) (machine : Option Run) (ws : List Job) → RunRight c machine → AllByRecursion Long (on_machine machine ++ ws) →
      RunRight (suc c) (machine_after V k (started c machine ws))
  quarter_stays_right k c (Some r) ws right long = run_stays_right k c r.job r.gone r.hit right.0 right.1 right.2
  quarter_stays_right k c None [] right long = tt
  quarter_stays_right k c None (j ∷ ws) right long =
      cond_both (leb j.release c) (Some (begun j)) None (λ m. RunRight (suc c) (machine_after V k m))
      (λ e. run_stays_right k c j 0 None long.0 (omega arith) tt) (λ e. tt)

  -- one quarter of the board
  abbrev BoardMoves : Kind → ℕ → List Job → List ℕ → List ℕ → Option Run → List Job → Type 0
  BoardMoves k c jobs times g machine ws = Moved V c (machine_after V k machine) (event_of V k machine) ws jobs times g

  pub quarter_moves : (k : Kind) (c : ℕ) (machine : Option Run) (ws : List Job) (g : List ℕ) → RunRight c machine → AllByRecursion Long (on_machine machine ++ ws) →
      Increasing (suc c) g →
      Moved V c (machine_after V k (started c machine ws)) (event_of V k (started c machine ws)) (left_waiting c machine ws) (on_machine machine ++ ws)
      (foreseen V c machine ws (shown k c g)) g
  quarter_moves k c (Some r) ws g right long i = run_moves k c r.job r.gone r.hit ws g right.0 right.1 right.2 i
  quarter_moves k c None [] g right long i = inl (idle_goes_on, refl, refl)
  quarter_moves k c None (j ∷ ws) g right long i =
      let times = foreseen V c None (j ∷ ws) (shown k c g) in
      elim (cases_lt c j.release) [
        | inl wait ↦
            let not_yet = lt-leb j.release c wait in
            subst⁻¹ (λ m. BoardMoves k c (j ∷ ws) times g m (left_waiting c None (j ∷ ws))) (cond-false (leb j.release c) (Some (begun j)) None not_yet)
            (subst⁻¹ (BoardMoves k c (j ∷ ws) times g None) (cond-false (leb j.release c) ws (j ∷ ws) not_yet)
            (inl (idle_goes_on, refl, idle_moves k c j ws g wait)))
        | inr ready ↦
            let now = le-leb j.release c ready in
            let from : max j.release c ≡ c - 0 = omega arith in
            subst⁻¹ (λ m. BoardMoves k c (j ∷ ws) times g m (left_waiting c None (j ∷ ws))) (cond-true (leb j.release c) (Some (begun j)) None now)
            (subst⁻¹ (BoardMoves k c (j ∷ ws) times g (Some (begun j))) (cond-true (leb j.release c) ws (j ∷ ws) now)
            (subst⁻¹ (λ t. BoardMoves k c (j ∷ ws) t g (Some (begun j)) ws) (same_times j.length _ _ ws (shown k c g) from)
            (run_moves k c j 0 None ws g long.0 (omega arith) tt i)))
      ]
