-- Rows that grow.
use Rattle.std.proofs.Common.{ℕ, ◌⊎◌, List, inl, inr, ⊎_elim, arith}
use Rattle.search.specs.Rows.{Grew}

-- the same is kept, in other words
pub grew_like : {P Q : ℕ → ℕ → Type 0} {old new : List ℕ} → ((s t : ℕ) → P s t → Q s t) → ((s t : ℕ) → Q s t → P s t) → Grew P old new → Grew Q old new
grew_like to from g = record {
  sound = λ s t e. ⊎_elim inl (λ x. inr (to s t x)) (g.sound s t e);
  covers = λ s t x. g.covers s t (from s t x);
  keeps = g.keeps;
}

-- first P is kept and then Q
pub grew_more : {P Q R : ℕ → ℕ → Type 0} {a b c : List ℕ} → ((s t : ℕ) → P s t → R s t) → ((s t : ℕ) → Q s t → R s t) → ((s t : ℕ) → R s t → P s t ⊎ Q s t) →
    Grew P a b → Grew Q b c → Grew R a c
grew_more one two split g h = record {
  sound = λ s t e. ⊎_elim (λ x. ⊎_elim inl (λ y. inr (one s t y)) (g.sound s t x)) (λ y. inr (two s t y)) (h.sound s t e);
  covers = λ s t x. ⊎_elim (λ y. omega (arith, g.covers s t y, h.keeps s)) (λ y. h.covers s t y) (split s t x);
  keeps = λ s. omega (arith, g.keeps s, h.keeps s);
}
