-- What the laws of a rule give of many clean quarters, and of allowed lists of faults.
use Rattle.std.proofs.Common.{◌≡◌, ℕ, zero, suc, ◌+◌, ◌-◌, ◌<◌, ◌≤◌, List, [], ◌∷◌, Some, refl, ap, ◌∙◌, add-zero, add-suc, arith}
use Rattle.inspections.specs.Verdict.{Bounded, Verdict}
use Rattle.rules.specs.Model.{Model, Laws, cleans}
use Rattle.rules.specs.Faults.{Allowed}
use Rattle.schedules.specs.Futures.{Above, Beyond}

-- a run with a fault is given up between its first fault and its end
pub lasts_within : {V : Verdict} → Bounded V → (p x : ℕ) → 1 ≤ x → x ≤ p → (x ≤ V p x) × (V p x ≤ p)
lasts_within bounded p x h k = (bounded.from_fault p x h k, bounded.to_end p x h k)

pub beyond_sooner : (D E : ℕ) → D ≤ E → (g : List ℕ) → Beyond E g → Beyond D g
beyond_sooner D E h [] b = tt
beyond_sooner D E h (q ∷ g) b = omega arith

pub cleans_more : (m : Model) (n k s : ℕ) → cleans m (n + k) s ≡ cleans m k (cleans m n s)
cleans_more m n zero s = rw add-zero refl
cleans_more m n (suc k) s = rw add-suc (ap m.clean (cleans_more m n k s))

pub cleans_split : (m : Model) (a n k s : ℕ) → a ≡ n + k → cleans m a s ≡ cleans m k (cleans m n s)
cleans_split m a n k s e = ap (λ x. cleans m x s) e ∙ cleans_more m n k s

pub allowed_beyond : (m : Model) (s c : ℕ) (g : List ℕ) → Allowed m s c g → Beyond c g
allowed_beyond m s c [] a = tt
allowed_beyond m s c (q ∷ g) a = a.1

-- what is allowed after n clean quarters is allowed
pub allowed_after_wait : (m : Model) (s c n d : ℕ) → d ≡ c + n → (g : List ℕ) → Allowed m (cleans m n s) d g → Allowed m s c g
allowed_after_wait m s c n d e [] a = tt
allowed_after_wait m s c n d e (q ∷ g) (t, late, early, permitted, rest) =
    (t, omega arith, early, ap m.spoiled (cleans_split m (q - c - 1) n (q - d - 1) s (omega arith)) ∙ permitted, rest)

module _ (m : Model) (laws : Laws m) where
  pub above_refl : (s : ℕ) → s < m.size → Above m s s
  above_refl s h = (h, h, laws.reflexive s h)

  pub above_trans : (s t u : ℕ) → Above m s t → Above m t u → Above m s u
  above_trans s t u p q = (p.0, q.1, laws.transitive s t u p.0 p.1 q.1 p.2 q.2)

  pub above_cleans : (n s t : ℕ) → Above m s t → Above m (cleans m n s) (cleans m n t)
  above_cleans zero s t p = p
  above_cleans (suc n) s t p =
      let q = above_cleans n s t p in
      (laws.clean_stays _ q.0, laws.clean_stays _ q.1, laws.clean_keeps _ _ q.0 q.1 q.2)

  pub above_wait : (n s t : ℕ) → Above m s t → Above m (cleans m n s) t
  above_wait zero s t p = p
  above_wait (suc n) s t p =
      let q = above_wait n s t p in
      let stays = laws.clean_stays _ q.0 in
      (stays, q.1, laws.transitive _ _ _ stays q.0 q.1 (laws.clean_frees _ q.0) q.2)

  -- a fault at q, when the state at c was s, leaves no more than clean quarters up to q do
  pub above_fault : (s c q t : ℕ) → s < m.size → c < q → m.spoiled (cleans m (q - c - 1) s) ≡ Some t → Above m (cleans m (q - c) s) t
  above_fault s c q t h late permitted =
      let before = (above_cleans (q - c - 1) s s (above_refl s h)).0 in
      rw (cleans_split m (q - c) (q - c - 1) 1 s (omega arith))
      (laws.clean_stays _ before, laws.spoiled_stays _ t before permitted, laws.clean_beats_spoiled _ t before permitted)

  -- the freer state permits the same fault, and is still freer after it
  pub above_hit : (s t u : ℕ) → Above m s t → m.spoiled t ≡ Some u → (v : ℕ) × (m.spoiled s ≡ Some v) × Above m v u
  above_hit s t u p e =
      let k = laws.spoiled_keeps s t u p.0 p.1 p.2 e in
      (k.0, k.1, (laws.spoiled_stays s _ p.0 k.1, laws.spoiled_stays t u p.1 e, k.2))
