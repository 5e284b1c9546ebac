-- `completion` under the two verdicts is the first clear clock.
use Rattle.std.proofs.Common.{◌≡◌, ℕ, zero, suc, ◌+◌, ◌-◌, ◌*◌, ◌<◌, ◌≤◌, leb, List, [], ◌∷◌, ap, ◌∙◌, inl, inr, arith}
use mathlib.Core.Path.{subst⁻¹}
use Rattle.std.proofs.lemmas.Bool.{cases_lt, le-leb, and_from, cond-true}
use Rattle.schedules.specs.Runs.{completion}
use Rattle.inspections.specs.Verdict.{at_end, at_fault, in_run}
use Rattle.rules.specs.Faults.{Increasing}
use Rattle.schedules.specs.Clear.{Clear, Least, FinishAtFault, FinishAtEnd}
use Rattle.schedules.proofs.Completion.{completion_skip, completion_hit, completion_past}

clear_ahead : (p τ c : ℕ) (f : List ℕ) → Increasing c f → τ ≤ c → Clear p τ f
clear_ahead p τ c [] i h = tt
clear_ahead p τ c (q ∷ f) i h = (inr (omega arith), clear_ahead p τ q f i.1 (omega arith))

in_run_is : (p x n : ℕ) → 1 ≤ x → x ≤ p → in_run p x n ≡ n
in_run_is p x n h k = cond-true _ n 0 (and_from (leb 1 x) (leb x p) (le-leb 1 x h) (le-leb x p k))

-- what is claimed of a clock C
abbrev FirstClear : ℕ → ℕ → List ℕ → ℕ → Type 0
FirstClear p S f = Least (λ τ. (S + p ≤ τ) × Clear p τ f)

pub finish_at_fault : FinishAtFault
finish_at_fault p S c [] pos i = ((omega arith, tt), λ k h w. omega arith)
finish_at_fault p S c (q ∷ f) pos i =
    elim (cases_lt S q) [
      | inr h ↦
          let next = finish_at_fault p S q f pos i.1 in
          subst⁻¹ (FirstClear p S (q ∷ f)) (completion_skip at_fault p S q f h)
          ((next.0.0, (inl (omega arith), next.0.1)), λ k l w. next.1 k l (w.0, w.1.1))
      | inl h ↦ elim (cases_lt (S + p) q) [
        | inl k ↦
            subst⁻¹ (FirstClear p S (q ∷ f)) (completion_past at_fault p S q f k)
            ((omega arith, (inr k, clear_ahead p (S + p) q f i.1 (omega arith))), λ n l w. omega arith)
        | inr k ↦
            let next = finish_at_fault p q q f pos i.1 in
            let place : S + at_fault p (q - S) ≡ q = omega (arith, in_run_is p (q - S) (q - S) (omega arith) (omega arith)) in
            subst⁻¹ (FirstClear p S (q ∷ f)) (completion_hit at_fault p S q f h k ∙ ap (λ n. completion at_fault p n f) place)
            ((omega arith, (inl next.0.0, next.0.1)), λ n l w. next.1 n l (omega arith, w.1.1))
      ]
    ]

-- a multiple of p above p is at least twice p
two_runs : (n p : ℕ) → p < n * p → (k : ℕ) × (n * p ≡ p + k * p) × (p ≤ k * p)
two_runs zero p h = absurd (omega arith)
two_runs (suc zero) p h = absurd (omega arith)
two_runs (suc (suc n)) p h = (suc n, omega arith, omega arith)

abbrev FirstClearRun : ℕ → ℕ → List ℕ → ℕ → Type 0
FirstClearRun p S f = Least (λ τ. (S + p ≤ τ) × ((n : ℕ) × (τ ≡ S + n * p)) × Clear p τ f)

pub finish_at_end : FinishAtEnd
finish_at_end p S c [] pos i = ((omega arith, (1, omega arith), tt), λ k h w. omega arith)
finish_at_end p S c (q ∷ f) pos i =
    elim (cases_lt S q) [
      | inr h ↦
          let next = finish_at_end p S q f pos i.1 in
          subst⁻¹ (FirstClearRun p S (q ∷ f)) (completion_skip at_end p S q f h)
          ((next.0.0, next.0.1, (inl (omega arith), next.0.2)), λ k l w. next.1 k l (w.0, w.1, w.2.1))
      | inl h ↦ elim (cases_lt (S + p) q) [
        | inl k ↦
            subst⁻¹ (FirstClearRun p S (q ∷ f)) (completion_past at_end p S q f k)
            ((omega arith, (1, omega arith), (inr k, clear_ahead p (S + p) q f i.1 (omega arith))), λ n l w. omega arith)
        | inr k ↦
            let next = finish_at_end p (S + p) q f pos i.1 in
            let runs = next.0.1 in
            let place : S + at_end p (q - S) ≡ S + p = omega (arith, in_run_is p (q - S) p (omega arith) (omega arith)) in
            subst⁻¹ (FirstClearRun p S (q ∷ f)) (completion_hit at_end p S q f h k ∙ ap (λ n. completion at_end p n f) place) (
              (omega arith, (suc runs.0, omega (arith, runs.1)), (inl (omega arith), next.0.2)),
              λ n l w.
                  let more = two_runs w.1.0 p (omega arith) in
                  next.1 n l (omega arith, (more.0, omega arith), w.2.1),
            )
      ]
    ]
