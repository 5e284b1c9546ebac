-- One round, state by state.
use Rattle.std.proofs.Common.{◌≡◌, ℕ, ◌+◌, ◌<◌, ◌≤◌, List, get_or, sym, ap, ◌∙◌, subst, inl, inr, ⊎_elim, arith}
use Rattle.std.proofs.lemmas.Bool.{cases_lt}
use Rattle.rules.specs.Model.{Model, cleans}
use Rattle.inspections.specs.Verdict.{Verdict}
use Rattle.search.specs.Rows.{Grew, In, KeepsOne}
use Rattle.search.specs.Rounds.{CleanOf, HitOf, Ran}
use Rattle.search.specs.Hits.{Hit}
use Rattle.search.proofs.Growing.{grew_like, grew_more}

module _ (m : Model) (V : Verdict) (p due : ℕ) (row : List ℕ) where
  hit_on : (n s t : ℕ) → HitOf m V p n row s t → HitOf m V p (n + 1) row s t
  hit_on n s t h = record { from = h.from; start = h.start; below = omega (arith, h.below); starts = h.starts; hit = h.hit }

  clean_on : (n s t : ℕ) → CleanOf m p n row s t → CleanOf m p (n + 1) row s t
  clean_on n s t h = record { from = h.from; start = h.start; below = omega (arith, h.below); starts = h.starts; state = h.state; time = h.time }

  hit_of : (n s t : ℕ) (h : HitOf m V p (n + 1) row s t) → h.from < n → HitOf m V p n row s t
  hit_of n s t h l = record { from = h.from; start = h.start; below = l; starts = h.starts; hit = h.hit }

  clean_of : (n s t : ℕ) (h : CleanOf m p (n + 1) row s t) → h.from < n → CleanOf m p n row s t
  clean_of n s t h l = record { from = h.from; start = h.start; below = l; starts = h.starts; state = h.state; time = h.time }

  -- no run starts in this state
  pub ran_skip : (n : ℕ) (next next' finish finish' : List ℕ) → get_or row n 0 ≡ 0 → Ran m V p due n row next next' finish finish' → Ran m V p due (n + 1) row next next' finish finish'
  ran_skip n next next' finish finish' z r = record {
    on_time = λ s t l e. ⊎_elim (λ k. r.on_time s t k e) (λ k.
        let q : s ≡ n = omega arith in
        let w : get_or row n 0 ≡ t + 1 = subst (λ j. get_or row j 0 ≡ t + 1) q e in omega arith) (cases_lt s n);
    given_up = grew_like (hit_on n) (λ s t h. ⊎_elim (hit_of n s t h) (λ k.
        let q : h.from ≡ n = omega (arith, h.below) in
        let w : get_or row n 0 ≡ h.start + 1 = subst (λ j. get_or row j 0 ≡ h.start + 1) q h.starts in
        let bad : ⊥ = omega arith in absurd bad) (cases_lt h.from n)) r.given_up;
    finished = grew_like (clean_on n) (λ s t h. ⊎_elim (clean_of n s t h) (λ k.
        let q : h.from ≡ n = omega (arith, h.below) in
        let w : get_or row n 0 ≡ h.start + 1 = subst (λ j. get_or row j 0 ≡ h.start + 1) q h.starts in
        let bad : ⊥ = omega arith in absurd bad) (cases_lt h.from n)) r.finished;
  }

  -- a run starts in this state, at t
  pub ran_more : (n t : ℕ) (next next' next'' finish finish' finish'' : List ℕ) (s' t' : ℕ) → In row n t → t + p ≤ due
      → Grew (Hit m V p 0 p n t) next' next'' → s' ≡ cleans m p n → t' ≡ t + p → Grew (KeepsOne s' t') finish' finish''
      → Ran m V p due n row next next' finish finish' → Ran m V p due (n + 1) row next next'' finish finish''
  ran_more n t next next' next'' finish finish' finish'' s' t' i d g es et f r = record {
    on_time = λ s u l e. ⊎_elim (λ k. r.on_time s u k e) (λ k.
        let q : s ≡ n = omega arith in
        let w : get_or row n 0 ≡ u + 1 = subst (λ j. get_or row j 0 ≡ u + 1) q e in omega arith) (cases_lt s n);
    given_up = grew_more (hit_on n)
        (λ s u h. record { from = n; start = t; below = omega arith; starts = i; hit = h })
        (λ s u h. ⊎_elim (λ k. inl (hit_of n s u h k)) (λ k.
        let q : h.from ≡ n = omega (arith, h.below) in
        let w : get_or row n 0 ≡ h.start + 1 = subst (λ j. get_or row j 0 ≡ h.start + 1) q h.starts in
        let v : h.start ≡ t = omega arith in
        inr (subst (λ j. Hit m V p 0 p n j s u) v (subst (λ j. Hit m V p 0 p j h.start s u) q h.hit))) (cases_lt h.from n))
        r.given_up g;
    finished = grew_more (clean_on n)
        (λ s u h. record { from = n; start = t; below = omega arith; starts = i; state = h.0 ∙ es; time = h.1 ∙ et })
        (λ s u h. ⊎_elim (λ k. inl (clean_of n s u h k)) (λ k.
        let q : h.from ≡ n = omega (arith, h.below) in
        let w : get_or row n 0 ≡ h.start + 1 = subst (λ j. get_or row j 0 ≡ h.start + 1) q h.starts in
        inr (h.state ∙ ap (cleans m p) q ∙ sym es, omega (arith, h.time))) (cases_lt h.from n))
        r.finished f;
  }
