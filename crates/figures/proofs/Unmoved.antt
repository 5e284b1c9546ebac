-- Faults after the finishes do not move them.
use Rattle.std.proofs.Common.{◌≡◌, ℕ, ◌+◌, ◌-◌, ◌≤◌, max, List, [], ◌∷◌, ◌++◌, sym, refl, ap, ◌∙◌, inl, inr, arith}
use Rattle.std.specs.List.{AllByRecursion}
use Rattle.std.proofs.lemmas.Bool.{cases_lt}
use Rattle.inspections.specs.Verdict.{Verdict}
use Rattle.schedules.specs.Runs.{completion, finishes, Slot}
use Rattle.schedules.proofs.States.{beyond_sooner}
use Rattle.schedules.specs.Futures.{Beyond}
use Rattle.schedules.proofs.Completion.{completion_skip, completion_hit, completion_past, completion_before}

module _ (V : Verdict) (N : ℕ) (h : List ℕ) (beyond : Beyond N h) where
  pub completion_unmoved : (p S : ℕ) (g : List ℕ) → completion V p S g ≤ N → completion V p S (g ++ h) ≡ completion V p S g
  completion_unmoved p S [] by = completion_before V p S h (beyond_sooner (S + p) N by h beyond)
  completion_unmoved p S (q ∷ g) by = elim (cases_lt S q) [
    | inr before ↦
        let e = completion_skip V p S q g before in
        completion_skip V p S q (g ++ h) before ∙ completion_unmoved p S g (omega arith) ∙ sym e
    | inl after ↦ elim (cases_lt (S + p) q) [
      | inl past ↦ completion_past V p S q (g ++ h) past ∙ sym (completion_past V p S q g past)
      | inr hit ↦
          let e = completion_hit V p S q g after hit in
          completion_hit V p S q (g ++ h) after hit ∙ completion_unmoved p (S + V p (q - S)) g (omega arith) ∙ sym e
    ]
  ]

  pub finishes_unmoved : (T : ℕ) (js : List Slot) (g : List ℕ) → AllByRecursion (λ q. q ≤ N) (finishes V T js g) → finishes V T js (g ++ h) ≡ finishes V T js g
  finishes_unmoved T [] g by = refl
  finishes_unmoved T (j ∷ js) g by =
      let same = completion_unmoved j.run (max j.start T) g by.0 in
      ap (λ n. n ∷ finishes V n js (g ++ h)) same ∙ ap (λ l. completion V j.run (max j.start T) g ∷ l) (finishes_unmoved (completion V j.run (max j.start T) g) js g by.1)
