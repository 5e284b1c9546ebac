-- Leaving times out of a row, state by state.
use Rattle.std.proofs.Common.{◌≡◌, ℕ, ◌+◌, ◌<◌, ◌≤◌, ◌↔◌, List, length, get_or, set, sym, ◌∙◌, ⊎_elim, arith, get_or-set_other, get_or-set_same}
use mathlib.Core.Path.{subst⁻¹}
use Rattle.search.specs.Rows.{In, Since}
use Rattle.std.proofs.lemmas.List.{get_or_past}
use Rattle.std.proofs.lemmas.Bool.{cases_lt}

-- the first n states have the times that are not before r, and the others are as they were
pub record Dropped (r n : ℕ) (old new : List ℕ) : Type 0 where
  pub before : (s t : ℕ) → s < n → In new s t ↔ (In old s t × (r ≤ t))
  pub after : (s : ℕ) → n ≤ s → get_or new s 0 ≡ get_or old s 0

-- one state more, which has its time only if that is not before r
pub dropped_more : (r n v : ℕ) (old new : List ℕ) → n < length new → ((t : ℕ) → (v ≡ t + 1) ↔ (In new n t × (r ≤ t))) → Dropped r n old new → Dropped r (n + 1) old (set new n v)
dropped_more r n v old new within is d = record {
  before = λ s t h. ⊎_elim
      (λ k. let same = still s (λ e. omega arith) in (λ i. (d.before s t k).0 (sym same ∙ i), λ i. same ∙ (d.before s t k).1 i))
      (λ k. let here : s ≡ n = omega arith in subst⁻¹ (λ x. In (set new n v) x t ↔ (In old x t × (r ≤ t))) here (this t)) (cases_lt s n);
  after = λ s h. still s (λ e. omega arith) ∙ d.after s (omega arith);
}
  where
    still : (s : ℕ) → (s ≡ n → ⊥) → get_or (set new n v) s 0 ≡ get_or new s 0
    still s other = rw get_or-set_other

    this : (t : ℕ) → In (set new n v) n t ↔ (In old n t × (r ≤ t))
    this t =
        let set_to = get_or-set_same new n v 0 within in
        let was = d.after n (omega arith) in
        (λ i. let found = (is t).0 (sym set_to ∙ i) in (sym was ∙ found.0, found.1), λ i. set_to ∙ (is t).1 (was ∙ i.0, i.1))

pub dropped_all : (r n : ℕ) (old new : List ℕ) → length old ≤ n → Dropped r n old new → Since r old new
dropped_all r n old new l d s t =
    ⊎_elim (d.before s t) (λ k.
    let there = get_or_past old s 0 (omega arith) in
    let here = d.after s k ∙ there in
    (λ i. absurd (omega arith), λ i. absurd (omega (arith, i.0)))) (cases_lt s n)
