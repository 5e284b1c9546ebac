-- n clean quarters.
use Rattle.std.proofs.Common.{◌≡◌, ℕ, ◌+◌, ◌*◌, ◌/◌, ◌%◌, ◌^◌, ◌<◌, sym, ap, ◌∙◌, subst, inl, inr, mod-lt, mul_assoc, add-mul, one-mul, div-add-mod', zero-mul, add-one, arith}
use Rattle.std.proofs.lemmas.Bool.{cases_eq}
use native.Mathlib.Nat.{pow-succ'}
use Rattle.rules.proofs.Cleans.{cleans_stay}
use Rattle.rules.specs.Model.{Laws, Model, cleans}
use Rattle.schedules.proofs.States.{above_cleans, cleans_more}

-- one bit of how many quarters are left
bit : (left k : ℕ) → left * 2 ^ k ≡ left / 2 * 2 ^ (k + 1) + left % 2 * 2 ^ k
bit left k =
    ap (λ n. n * 2 ^ k) (sym (div-add-mod' left 2))
    ∙ add-mul (left / 2 * 2) (left % 2) (2 ^ k)
    ∙ ap (λ n. n + left % 2 * 2 ^ k) (mul_assoc (left / 2) 2 (2 ^ k) ∙ ap (λ n. left / 2 * n) (sym (ap (λ n. 2 ^ n) (add-one k) ∙ pow-succ' 2 k)))

even_bit : (left k : ℕ) → left % 2 ≡ 0 → left * 2 ^ k ≡ left / 2 * 2 ^ (k + 1)
even_bit left k e = let none = ap (λ n. n * 2 ^ k) e ∙ zero-mul (2 ^ k) in omega (arith, bit left k)

odd_bit : (left k : ℕ) → left % 2 ≡ 1 → left * 2 ^ k ≡ 2 ^ k + left / 2 * 2 ^ (k + 1)
odd_bit left k e = let one = ap (λ n. n * 2 ^ k) e ∙ one-mul (2 ^ k) in omega (arith, bit left k)

-- a number that is not odd is even
pub even : (n : ℕ) → (n % 2 ≡ 1 → ⊥) → n % 2 ≡ 0
even n not = let bound = mod-lt n {m = 2} (omega arith) in elim (cases_eq (n % 2) 1) [ inl e ↦ absurd (not e) | inr ne ↦ omega (arith, bound, ne) ]

-- what the loop over the powers keeps: where the quarters that are left lead
abbrev pub LeadsOn : Model → ℕ → ℕ → ℕ → ℕ → Type 0
LeadsOn m end left k at = (at < m.size) × (cleans m (left * 2 ^ k) at ≡ end) × (left * 2 ^ k < 128)

pub leads_even : (m : Model) (end left k at : ℕ) → left % 2 ≡ 0 → LeadsOn m end left k at → LeadsOn m end (left / 2) (k + 1) at
leads_even m end left k at e (inside, leads, few) =
    let same = even_bit left k e in
    (inside, ap (λ n. cleans m n at) (sym same) ∙ leads, omega arith)

pub leads_odd : (m : Model) → Laws m → (end left k at next : ℕ) → left % 2 ≡ 1 → next ≡ cleans m (2 ^ k) at → LeadsOn m end left k at → LeadsOn m end (left / 2) (k + 1) next
leads_odd m laws end left k at next e is (inside, leads, few) =
    let same = odd_bit left k e in (
      subst (λ s. s < m.size) (sym is) (cleans_stay m laws (2 ^ k) at inside),
      ap (cleans m (left / 2 * 2 ^ (k + 1))) is ∙ sym (cleans_more m (2 ^ k) (left / 2 * 2 ^ (k + 1)) at) ∙ ap (λ n. cleans m n at) (sym same) ∙ leads,
      omega arith,
    )

-- one clean quarter more
pub cleans_next : (m : Model) (n s a b : ℕ) → a ≡ cleans m n s → b ≡ m.clean a → b ≡ cleans m (n + 1) s
cleans_next m n s a b e f = f ∙ ap m.clean e ∙ sym (ap (λ k. cleans m k s) (add-one n))

-- clean quarters keep the order
pub cleans_keep : (m : Model) → Laws m → (n s t : ℕ) → s < m.size → t < m.size → m.Freer s t → m.Freer (cleans m n s) (cleans m n t)
cleans_keep m laws n s t h k f = (above_cleans m laws n s t (h, k, f)).2
