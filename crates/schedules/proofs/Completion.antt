-- `completion`, case by case, and the finish of the last job of a schedule.
use Rattle.std.proofs.Common.{◌≡◌, ℕ, zero, suc, ◌+◌, ◌-◌, ◌<◌, ◌≤◌, max, leb, List, [], ◌∷◌, length, get_or, take, refl, ◌∙◌, inl, inr, arith}
use Rattle.std.proofs.lemmas.Bool.{cases_lt, le-leb, lt-leb, cond-true, cond-false}
use Rattle.inspections.specs.Verdict.{Verdict, Bounded}
use Rattle.schedules.specs.Runs.{completion, Slot, finishes}
use Rattle.schedules.specs.Futures.{Beyond, Same}

module _ (V : Verdict) where
  pub completion_skip : (p S q : ℕ) (f : List ℕ) → q ≤ S → completion V p S (q ∷ f) ≡ completion V p S f
  completion_skip p S q f h = cond-true (leb q S) _ _ (le-leb q S h)

  pub completion_hit : (p S q : ℕ) (f : List ℕ) → S < q → q ≤ S + p → completion V p S (q ∷ f) ≡ completion V p (S + V p (q - S)) f
  completion_hit p S q f h k = cond-false (leb q S) _ _ (lt-leb q S h) ∙ cond-true (leb q (S + p)) _ _ (le-leb q (S + p) k)

  pub completion_past : (p S q : ℕ) (f : List ℕ) → S + p < q → completion V p S (q ∷ f) ≡ S + p
  completion_past p S q f h = cond-false (leb q S) _ _ (lt-leb q S (omega arith)) ∙ cond-false (leb q (S + p)) _ _ (lt-leb q (S + p) h)

  pub completion_before : (p S : ℕ) (g : List ℕ) → Beyond (S + p) g → completion V p S g ≡ S + p
  completion_before p S [] b = refl
  completion_before p S (q ∷ g) b = completion_past p S q g b

  -- the finish of the last job, or T if there is none
  abbrev pub finish : ℕ → List Slot → List ℕ → ℕ
  finish T [] f = T
  finish T (j ∷ js) f = finish (completion V j.run (max j.start T) f) js f

  pub finishes_at : (T : ℕ) (js : List Slot) (f : List ℕ) (b : ℕ) → b < length js → get_or (finishes V T js f) b 0 ≡ finish T (take (suc b) js) f
  finishes_at T [] f b h = absurd (omega arith)
  finishes_at T (j ∷ js) f zero h = refl
  finishes_at T (j ∷ js) f (suc b) h = finishes_at (completion V j.run (max j.start T) f) js f b (omega arith)

  pub same_skip : (C q : ℕ) (f : List ℕ) → q ≤ C → Same V C (q ∷ f) f
  same_skip C q f h p S k = completion_skip p S q f (omega arith)

  module _ (bounded : Bounded V) where
    pub completion_grows : (p S : ℕ) (f : List ℕ) → S + p ≤ completion V p S f
    completion_grows p S [] = omega arith
    completion_grows p S (q ∷ f) =
        elim (cases_lt S q) [
          | inr h ↦ rw (completion_skip p S q f h) (completion_grows p S f)
          | inl h ↦ elim (cases_lt (S + p) q) [
            | inl k ↦ rw (completion_past p S q f k) (omega arith)
            | inr k ↦ rw (completion_hit p S q f h k) (omega (arith, completion_grows p (S + V p (q - S)) f))
          ]
        ]

    pub finish_grows : (T : ℕ) (js : List Slot) (f : List ℕ) → T ≤ finish T js f
    finish_grows T [] f = omega arith
    finish_grows T (j ∷ js) f =
        omega (arith, completion_grows j.run (max j.start T) f, finish_grows (completion V j.run (max j.start T) f) js f)
