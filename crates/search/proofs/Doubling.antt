-- Twice as many clean quarters.
use Rattle.std.proofs.Common.{◌≡◌, ℕ, ◌+◌, ◌^◌, ◌<◌, List, get_or, sym, ap, ◌∙◌, subst, add-one, arith}
use native.Mathlib.Nat.{pow-succ'}
use Rattle.rules.specs.Model.{Laws, Model, cleans}
use Rattle.schedules.proofs.States.{cleans_more}
use Rattle.rules.proofs.Cleans.{cleans_stay}
use Rattle.search.specs.Powers.{Leads}

module _ (m : Model) (laws : Laws m) (before : List ℕ) (k : ℕ) (leads : Leads m k before) where
  pub half_inside : (s : ℕ) → s < m.size → get_or before s 0 < m.size
  half_inside s h = subst (λ x. x < m.size) (sym (leads s h)) (cleans_stay m laws (2 ^ k) s h)

  -- twice as many as so many
  twice : 2 ^ k + 2 ^ k ≡ 2 ^ (k + 1)
  twice = let up = ap (λ n. 2 ^ n) (add-one k) ∙ pow-succ' 2 k in omega arith

  pub twice_leads : (s : ℕ) → s < m.size → get_or before (get_or before s 0) 0 ≡ cleans m (2 ^ (k + 1)) s
  twice_leads s h =
      leads (get_or before s 0) (half_inside s h)
      ∙ ap (cleans m (2 ^ k)) (leads s h)
      ∙ sym (cleans_more m (2 ^ k) (2 ^ k) s)
      ∙ ap (λ n. cleans m n s) twice
