-- Start after start.
use Rattle.std.proofs.Common.{◌≡◌, ℕ, zero, suc, ◌+◌, ◌-◌, ◌<◌, ◌≤◌, ◌⊎◌, List, [], ◌∷◌, length, get_or, set, sym, ap, ◌∙◌, subst, inl, inr, ⊎_elim, arith, get_or-set_other, get_or-set_same}
use Rattle.inspections.specs.Verdict.{Verdict}
use Rattle.rules.specs.Model.{Model, cleans}
use Rattle.search.specs.Chains.{Chain, Ends, Passes, Searched, Starts, again, first}
use Rattle.search.specs.Hits.{Hit}
use Rattle.search.specs.Rows.{Covers, Empty, Grew, In, KeepsOne, Pending}
use Rattle.std.proofs.lemmas.Bool.{cases_eq}

-- what is known while `done` has the starts that were gone through, the later ones for each state, and `cur` those that are known
pub record Going (m : Model) (V : Verdict) (p due : ℕ) (row cur done finish finish' : List ℕ) : Type 0 where
  pub behind : (s : ℕ) → get_or done s 0 ≤ get_or cur s 0
  pub grown : (s : ℕ) → get_or row s 0 ≤ get_or cur s 0
  pub reached : (s t : ℕ) → Starts m cur s t → Chain m V p due row s t
  pub on_time : (s t : ℕ) → Starts m done s t → t + p ≤ due
  pub closed : (s t s' t' : ℕ) → Starts m done s t → Hit m V p 0 p s t s' t' → Covers cur s' t'
  pub ended : (s t : ℕ) → Starts m done s t → Covers finish' (cleans m p s) (t + p)
  pub sound : (s f : ℕ) → In finish' s f → In finish s f ⊎ Ends m V p due row s f
  pub keeps : (s : ℕ) → get_or finish s 0 ≤ get_or finish' s 0

-- how much each number can still rise up to n, in all
abbrev pub left_to : ℕ → List ℕ → ℕ
left_to n [] = 0
left_to n (x ∷ xs) = (n - x) + left_to n xs

pub left_less : (n : ℕ) (xs : List ℕ) (i v : ℕ) → i < length xs → get_or xs i 0 < v → v ≤ n → left_to n (set xs i v) < left_to n xs
left_less n [] i v h k l = absurd (omega arith)
left_less n (x ∷ xs) zero v h k l = omega arith
left_less n (x ∷ xs) (suc i) v h k l = let less = left_less n xs i v (omega arith) k l in omega arith

module _ (m : Model) (V : Verdict) (p due : ℕ) (row : List ℕ) where
  -- nothing was gone through
  pub going_none : (done finish : List ℕ) → Empty done → Going m V p due row row done finish finish
  going_none done finish z = record {
    behind = λ s. omega (arith, z s);
    grown = λ s. omega arith;
    reached = λ s t i. first i;
    on_time = λ s t i. absurd (none s t i);
    closed = λ s t s' t' i h. absurd (none s t i);
    ended = λ s t i. absurd (none s t i);
    sound = λ s f i. inl i;
    keeps = λ s. omega arith;
  }
    where
      none : (s t : ℕ) → Starts m done s t → ⊥
      none s t i = omega (arith, i.1, z s)

  module _ (cur done finish finish' : List ℕ) (g : Going m V p due row cur done finish finish') where
    -- one start more, at t in the state u
    pub going_more : (u t e : ℕ) (cur' finish'' : List ℕ) → u < m.size → u < length done → In cur u t → t + p ≤ due → e ≡ cleans m p u →
        Grew (KeepsOne e (t + p)) finish' finish'' → Grew (Hit m V p 0 p u t) cur cur' → Going m V p due row cur' (set done u (get_or cur u 0)) finish finish''
    going_more u t e cur' finish'' inside within at by end grew hits = record {
      behind = λ s. ⊎_elim (λ is. omega (arith, hits.keeps s, ap (λ k. get_or cur k 0) is, now_done s is)) (λ other. omega (arith, g.behind s, hits.keeps s, still s other)) (cases_eq s u);
      grown = λ s. omega (arith, g.grown s, hits.keeps s);
      reached = λ s n i. ⊎_elim (λ was. g.reached s n (i.0, was)) (λ hit. again (g.reached u t (inside, at)) by hit) (hits.sound s n i.1);
      on_time = λ s n i. ⊎_elim (λ is. omega (arith, is_t s n is i.1)) (λ other. g.on_time s n (was s n other i)) (cases_eq s u);
      closed = λ s n s' n' i h.
          ⊎_elim (λ is. hits.covers s' n' (subst (λ k. Hit m V p 0 p u k s' n') (is_t s n is i.1) (subst (λ k. Hit m V p 0 p k n s' n') is h)))
          (λ other. omega (arith, g.closed s n s' n' (was s n other i) h, hits.keeps s')) (cases_eq s u);
      ended = λ s n i.
          ⊎_elim (λ is. grew.covers (cleans m p s) (n + p) (ap (cleans m p) is ∙ sym end, ap (λ k. k + p) (is_t s n is i.1)))
          (λ other. omega (arith, g.ended s n (was s n other i), grew.keeps (cleans m p s))) (cases_eq s u);
      sound = λ s f i.
          ⊎_elim (g.sound s f) (λ kept. inr (record { from = u; start = t; chain = g.reached u t (inside, at); state = kept.0 ∙ end; time = kept.1; by = omega (arith, kept.1) })) (grew.sound s f i);
      keeps = λ s. omega (arith, g.keeps s, grew.keeps s);
    }
      where
        now_done : (s : ℕ) → s ≡ u → get_or (set done u (get_or cur u 0)) s 0 ≡ get_or cur u 0
        now_done s is = ap (λ k. get_or (set done u (get_or cur u 0)) k 0) is ∙ get_or-set_same done u (get_or cur u 0) 0 within

        still : (s : ℕ) → (s ≡ u → ⊥) → get_or (set done u (get_or cur u 0)) s 0 ≡ get_or done s 0
        still s other = rw get_or-set_other

        is_t : (s n : ℕ) → s ≡ u → In (set done u (get_or cur u 0)) s n → n ≡ t
        is_t s n is i = omega (arith, now_done s is, i)

        was : (s n : ℕ) → (s ≡ u → ⊥) → Starts m (set done u (get_or cur u 0)) s n → Starts m done s n
        was s n other i = (i.0, sym (still s other) ∙ i.1)

    -- every start was gone through
    pub going_all : ((s : ℕ) → s < m.size → Pending cur done s → ⊥) → Searched m V p due row cur finish finish'
    going_all never = record {
      grown = g.grown;
      reached = g.reached;
      on_time = λ s t i. g.on_time s t (gone s t i);
      closed = λ s t s' t' i h. g.closed s t s' t' (gone s t i) h;
      ended = λ s t i. g.ended s t (gone s t i);
      sound = g.sound;
      keeps = g.keeps;
    }
      where
        same : (s : ℕ) → s < m.size → get_or done s 0 ≡ get_or cur s 0
        same s h = ⊎_elim (λ e. e) (λ ne. absurd (never s h (omega (arith, ne, g.behind s)))) (cases_eq (get_or done s 0) (get_or cur s 0))

        gone : (s t : ℕ) → Starts m cur s t → Starts m done s t
        gone s t i = (i.0, same s i.0 ∙ i.1)

    -- one passes the due quarter
    pub going_late : (u t : ℕ) → Starts m cur u t → due < t + p → Passes m V p due row
    going_late u t at passes = record { from = u; start = t; chain = g.reached u t at; passes = passes }
