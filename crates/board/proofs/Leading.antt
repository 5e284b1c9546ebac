-- How faults lead on by one quarter.
use Rattle.std.proofs.Common.{◌≡◌, ℕ, suc, ◌+◌, ◌-◌, ◌<◌, List, [], ◌∷◌, ◌++◌, Some, sym, ap, ◌∙◌, subst, arith}
use Rattle.board.specs.Faults.{Leads}
use Rattle.rules.proofs.Cleans.{cleans_stay}
use Rattle.rules.specs.Faults.{Allowed}
use Rattle.rules.specs.Model.{Laws, Model, cleans}

-- as many clean quarters
same_cleans : (m : Model) (a b s : ℕ) → a ≡ b → cleans m a s ≡ cleans m b s
same_cleans m a b s e = ap (λ n. cleans m n s) e

pub leads_clean : (m : Model) (s c d t : ℕ) (f : List ℕ) → Leads m s c f d t → Leads m s c f (d + 1) (m.clean t)
leads_clean m s c d t [] (past, is) =
    (omega arith, ap m.clean is ∙ same_cleans m (suc (d - c)) (d + 1 - c) s (omega arith))
leads_clean m s c d t (q ∷ f) (u, late, by, permitted, rest) = (u, late, omega arith, permitted, leads_clean m u q d t f rest)

pub leads_spoiled : (m : Model) (s c d t v : ℕ) (f : List ℕ) → Leads m s c f d t → m.spoiled t ≡ Some v → Leads m s c (f ++ ((d + 1) ∷ [])) (d + 1) v
leads_spoiled m s c d t v [] (past, is) permitted =
    let here : cleans m (d + 1 - c - 1) s ≡ t = same_cleans m (d + 1 - c - 1) (d - c) s (omega arith) ∙ sym is in
    (v, omega arith, omega arith, ap m.spoiled here ∙ permitted, (omega arith, sym (same_cleans m (d + 1 - (d + 1)) 0 v (omega arith))))
leads_spoiled m s c d t v (q ∷ f) (u, late, by, permitted, rest) p = (u, late, omega arith, permitted, leads_spoiled m u q d t v f rest p)

-- the faults with one more are allowed where the rule permits it
pub leads_allowed : (m : Model) (s c d t v : ℕ) (f : List ℕ) → Leads m s c f d t → d < 4096 → m.spoiled t ≡ Some v → Allowed m s c (f ++ ((d + 1) ∷ []))
leads_allowed m s c d t v [] (past, is) room permitted =
    let here : cleans m (d + 1 - c - 1) s ≡ t = same_cleans m (d + 1 - c - 1) (d - c) s (omega arith) ∙ sym is in
    (v, omega arith, omega arith, ap m.spoiled here ∙ permitted, tt)
leads_allowed m s c d t v (q ∷ f) (u, late, by, permitted, rest) room p = (u, late, omega arith, permitted, leads_allowed m u q d t v f rest room p)

-- and only there
pub allowed_leads : (m : Model) (s c d t : ℕ) (f : List ℕ) → Leads m s c f d t → Allowed m s c (f ++ ((d + 1) ∷ [])) → (v : ℕ) × (m.spoiled t ≡ Some v)
allowed_leads m s c d t [] (past, is) (v, late, by, permitted, rest) =
    let here : t ≡ cleans m (d + 1 - c - 1) s = is ∙ same_cleans m (d - c) (d + 1 - c - 1) s (omega arith) in
    (v, ap m.spoiled here ∙ permitted)
allowed_leads m s c d t (q ∷ f) (u, late, by, permitted, rest) (v, late', by', permitted', rest') =
    let same : v ≡ u = cc in
    allowed_leads m u q d t f rest (subst (λ x. Allowed m x q (f ++ ((d + 1) ∷ []))) same rest')

module _ (m : Model) (laws : Laws m) where
  pub leads_stay : (s c d t : ℕ) (f : List ℕ) → s < m.size → Leads m s c f d t → t < m.size
  leads_stay s c d t [] h (past, is) = subst (λ x. x < m.size) (sym is) (cleans_stay m laws (d - c) s h)
  leads_stay s c d t (q ∷ f) h (u, late, by, permitted, rest) =
      leads_stay u q d t f (laws.spoiled_stays _ u (cleans_stay m laws (q - c - 1) s h) permitted) rest
