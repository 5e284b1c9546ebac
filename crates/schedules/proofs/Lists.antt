-- Lemmas on the words of specs/Lists.antt.
use Rattle.std.proofs.Common.{ℕ, zero, suc, ◌<◌, ◌≤◌, max, List, [], ◌∷◌, length, get_or, inl, inr, arith}
use Rattle.std.specs.List.{AllByRecursion}
use Rattle.schedules.specs.Lists.{Any, Pairs, First}

module _ {A B : Type 0} where
  pub pairs_map : (R S : A → B → Type 0) (xs : List A) (ys : List B) → AllByRecursion (λ x. (y : B) → R x y → S x y) xs → Pairs R xs ys → Pairs S xs ys
  pairs_map R S [] [] f p = tt
  pairs_map R S [] (y ∷ ys) f p = p
  pairs_map R S (x ∷ xs) [] f p = p
  pairs_map R S (x ∷ xs) (y ∷ ys) f p = (f.0 y p.0, pairs_map R S xs ys f.1 p.1)

  pub pairs_with : (R S : A → B → Type 0) (P : A → Type 0) → ((x : A) (y : B) → R x y → P x → S x y) → (xs : List A) (ys : List B) → Pairs R xs ys → AllByRecursion P xs → Pairs S xs ys
  pairs_with R S P f [] [] p a = tt
  pairs_with R S P f [] (y ∷ ys) p a = p
  pairs_with R S P f (x ∷ xs) [] p a = p
  pairs_with R S P f (x ∷ xs) (y ∷ ys) p a = (f x y p.0 a.0, pairs_with R S P f xs ys p.1 a.1)

  pub pairs_all : (R S : A → B → Type 0) (P : A → Type 0) → ((x : A) (y : B) → R x y → S x y → P x) → (xs : List A) (ys : List B) → Pairs R xs ys → Pairs S xs ys → AllByRecursion P xs
  pairs_all R S P f [] ys p q = tt
  pairs_all R S P f (x ∷ xs) [] p q = absurd p
  pairs_all R S P f (x ∷ xs) (y ∷ ys) p q = (f x y p.0 q.0, pairs_all R S P f xs ys p.1 q.1)

  pub pairs_at : (R : A → B → Type 0) (xs : List A) (ys : List B) (i : ℕ) (d : A) (e : B) → i < length xs → Pairs R xs ys → R (get_or xs i d) (get_or ys i e)
  pairs_at R [] ys i d e h p = absurd (omega arith)
  pairs_at R (x ∷ xs) [] i d e h p = absurd p
  pairs_at R (x ∷ xs) (y ∷ ys) zero d e h p = p.0
  pairs_at R (x ∷ xs) (y ∷ ys) (suc i) d e h p = pairs_at R xs ys i d e (omega arith) p.1

module _ {A : Type 0} where
  pub any_map : (P Q : A → Type 0) (xs : List A) → AllByRecursion (λ x. P x → Q x) xs → Any P xs → Any Q xs
  any_map P Q [] f a = a
  any_map P Q (x ∷ xs) f (inl p) = inl (f.0 p)
  any_map P Q (x ∷ xs) f (inr a) = inr (any_map P Q xs f.1 a)

  pub none_all : (P : A → Type 0) (xs : List A) → (Any P xs → ⊥) → AllByRecursion (λ x. P x → ⊥) xs
  none_all P [] f = tt
  none_all P (x ∷ xs) f = (λ p. f (inl p), none_all P xs (λ a. f (inr a)))

  pub first_any : (P Q : A → Type 0) (xs : List A) → First P Q xs → Any (λ x. Q x × P x) xs
  first_any P Q [] f = f
  first_any P Q (x ∷ xs) (inl p) = inl (p.1, p.0)
  first_any P Q (x ∷ xs) (inr p) = inr (first_any P Q xs p.1)

  pub all_by : (P : A → Type 0) → ((x : A) → P x) → (xs : List A) → AllByRecursion P xs
  all_by P f [] = tt
  all_by P f (x ∷ xs) = (f x, all_by P f xs)

abbrev pub greatest : List ℕ → ℕ
greatest [] = 0
greatest (x ∷ xs) = max x (greatest xs)

pub within_greatest : (xs : List ℕ) (n : ℕ) → greatest xs ≤ n → AllByRecursion (λ x. x ≤ n) xs
within_greatest [] n h = tt
within_greatest (x ∷ xs) n h = (omega arith, within_greatest xs n (omega arith))
