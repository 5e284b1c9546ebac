-- The hits of one run, quarter by quarter.
use Rattle.std.proofs.Common.{◌≡◌, ℕ, ◌+◌, ◌-◌, ◌<◌, ◌≤◌, List, Some, None, sym, ap, ◌∙◌, subst, inl, inr, ⊎_elim, arith}
use Rattle.inspections.specs.Verdict.{Verdict}
use Rattle.rules.specs.Model.{Model, cleans}
use Rattle.search.proofs.Growing.{grew_like, grew_more}
use Rattle.search.specs.Hits.{Hit}
use Rattle.search.specs.Rows.{Grew, KeepsOne}
use Rattle.std.proofs.lemmas.Bool.{cases_lt}

module _ (m : Model) (V : Verdict) (p g s t : ℕ) where
  hit_later : (n s' t' : ℕ) → Hit m V p g n s t s' t' → Hit m V p g (n + 1) s t s' t'
  hit_later n s' t' h = record { before = h.before; gone = h.gone; early = omega (arith, h.early); spoiled = h.spoiled; permitted = h.permitted; state = h.state; time = h.time }

  hit_earlier : (n s' t' : ℕ) (h : Hit m V p g (n + 1) s t s' t') → h.before < n → Hit m V p g n s t s' t'
  hit_earlier n s' t' h l = record { before = h.before; gone = h.gone; early = l; spoiled = h.spoiled; permitted = h.permitted; state = h.state; time = h.time }

  -- no fault is permitted in the state a, after n clean quarters
  pub hits_skip : (n a : ℕ) (old new : List ℕ) → a ≡ cleans m (n - g) s → None ≡ m.spoiled a → Grew (Hit m V p g n s t) old new → Grew (Hit m V p g (n + 1) s t) old new
  hits_skip n a old new at off grew =
      grew_like (hit_later n) (λ s' t' h. ⊎_elim (hit_earlier n s' t' h) (λ l.
      let e : h.before ≡ n = omega (arith, h.early) in
      let f : m.spoiled (cleans m (n - g) s) ≡ Some h.spoiled = subst (λ k. m.spoiled (cleans m (k - g) s) ≡ Some h.spoiled) e h.permitted in
      let z : ◌≡◌ {A = ℕ} 0 1 = cc in
      let bad : ⊥ = omega arith in absurd bad) (cases_lt h.before n)) grew

  -- a fault is permitted there, and the run is then given up after v quarters, in the state s'
  pub hits_more : (n a u v : ℕ) (old mid new : List ℕ) (s' : ℕ) → g ≤ n → a ≡ cleans m (n - g) s → Some u ≡ m.spoiled a → v ≡ V p (n + 1) → s' ≡ cleans m (v - (n + 1)) u →
      Grew (Hit m V p g n s t) old mid → Grew (KeepsOne s' (t + v)) mid new → Grew (Hit m V p g (n + 1) s t) old new
  hits_more n a u v old mid new s' least at some ev es grew kept =
      let es' : s' ≡ cleans m (V p (n + 1) - (n + 1)) u = es ∙ ap (λ k. cleans m (k - (n + 1)) u) ev in
      grew_more (hit_later n)
      (λ x y q. record { before = n; gone = least; early = omega arith; spoiled = u; permitted = ap m.spoiled (sym at) ∙ sym some; state = q.0 ∙ es'; time = q.1 ∙ ap (λ k. t + k) ev })
      (λ x y k. ⊎_elim (λ l. inl (hit_earlier n x y k l)) (λ l.
      let e : k.before ≡ n = omega (arith, k.early) in
      let f : m.spoiled (cleans m (n - g) s) ≡ Some k.spoiled = subst (λ j. m.spoiled (cleans m (j - g) s) ≡ Some k.spoiled) e k.permitted in
      let o : k.spoiled ≡ u = cc in
      let c : x ≡ cleans m (V p (n + 1) - (n + 1)) k.spoiled = subst (λ j. x ≡ cleans m (V p (j + 1) - (j + 1)) k.spoiled) e k.state in
      let w : y ≡ t + V p (n + 1) = subst (λ j. y ≡ t + V p (j + 1)) e k.time in
      inr (c ∙ ap (cleans m (V p (n + 1) - (n + 1))) o ∙ sym es', w ∙ ap (λ j. t + j) (sym ev))) (cases_lt k.before n))
      grew kept
