-- Two rules at once: their laws, and what they allow.
use Rattle.std.specs.Prelude.{◌≡◌, ℕ, zero, suc, ◌-◌, ◌*◌, ◌/◌, ◌%◌, ◌<◌, ◌≤◌, cond, List, [], ◌∷◌, Some, None, Option, nat_lt, refl}
use Rattle.std.proofs.Common.{sym, ap, ap₂, subst, ◌∙◌, mod-lt, div-lt_iff_lt-mul, arith}
use Rattle.std.proofs.Math.Path.{subst⁻¹}
use Rattle.std.proofs.Math.Arith.{digits_lt, digits_div, digits_mod}
use Rattle.std.proofs.lemmas.Bool.Decides.{nat_tests}
use Rattle.rules.specs.Model.{Model, Laws, capped, after_spoiled, cleans}
use Rattle.rules.specs.Faults.{Allowed}
use Rattle.rules.specs.Both.{pair, joined, both, BothAllows}

positive : (s x n : ℕ) → s < x * n → 0 < n
positive s x zero h = absurd (omega arith)
positive s x (suc n) h = omega arith

has_room : (s n : ℕ) → s < capped n → (n ≤ 512) × (s < n)
has_room s n h = (grind (arith, nat_tests), grind (arith, nat_tests))

makes_room : (s n : ℕ) → n ≤ 512 → s < n → s < capped n
makes_room s n h k = grind (arith, nat_tests)

is_small : (n : ℕ) → capped n ≤ 512
is_small n = grind (arith, nat_tests)

-- the opening where there are states, and where there are none
with_states : (n x : ℕ) → 0 < n → cond (nat_lt 0 n) x 0 ≡ x
with_states n x h = grind (arith, nat_tests)

without_states : (n x : ℕ) → n ≡ 0 → cond (nat_lt 0 n) x 0 ≡ 0
without_states n x h = grind (arith, nat_tests)

-- a joined answer comes from two answers
joined_parts : (n t : ℕ) (x y : Option ℕ) → joined n x y ≡ Some t → (u v : ℕ) × (x ≡ Some u) × (y ≡ Some v) × (t ≡ pair n u v)
joined_parts n t None y e = absurd (grind arith)
joined_parts n t (Some u) None e = absurd (grind arith)
joined_parts n t (Some u) (Some v) e = (u, v, refl, refl, cc)

joined_from : (n u v : ℕ) (x y : Option ℕ) → x ≡ Some u → y ≡ Some v → joined n x y ≡ Some (pair n u v)
joined_from n u v x y e k = ap₂ (joined n) e k

-- a state after a spoiled quarter is below 512
pub spoiled_small : (m : Model) → Laws m → (s t : ℕ) → after_spoiled m s ≡ Some t → t < 512
spoiled_small m l s t e =
    let taken : (s < m.size) × (m.spoiled s ≡ Some t) = (grind (arith, nat_tests), grind (arith, nat_tests)) in
    omega (arith, l.spoiled_stays s t taken.0 taken.1, l.small)

module _ (a b : Model) where
  -- the parts of a state are states
  pub parts : (s : ℕ) → s < (both a b).size → (s / b.size < a.size) × (s % b.size < b.size) × (a.size * b.size ≤ 512)
  parts s h =
      let room = has_room s (a.size * b.size) h in
      let pos = positive s a.size b.size room.1 in
      ((div-lt_iff_lt-mul pos).1 room.1, mod-lt s pos, room.0)

  put : (x y : ℕ) → a.size * b.size ≤ 512 → x < a.size → y < b.size → pair b.size x y < (both a b).size
  put x y room h k = makes_room (pair b.size x y) (a.size * b.size) room (digits_lt h k)

  first : (x y : ℕ) → y < b.size → pair b.size x y / b.size ≡ x
  first x y h = digits_div x h

  second : (x y : ℕ) → y < b.size → pair b.size x y % b.size ≡ y
  second x y h = digits_mod x h

  opened : 0 < (both a b).size → (both a b).opening ≡ pair b.size a.opening b.opening
  opened h = with_states (both a b).size (pair b.size a.opening b.opening) h

  module _ (la : Laws a) (lb : Laws b) where
    -- the order on states put together from their parts
    freer_put : (x y t : ℕ) → y < b.size → a.Freer x (t / b.size) → b.Freer y (t % b.size) → (both a b).Freer (pair b.size x y) t
    freer_put x y t h p q = (rw (first x y h) p, rw (second x y h) q)

    freer_puts : (x y u v t : ℕ) → t ≡ pair b.size u v → y < b.size → v < b.size → a.Freer x u → b.Freer y v →
        (both a b).Freer (pair b.size x y) t
    freer_puts x y u v t e h k p q =
        rw e (freer_put x y (pair b.size u v) h (rw (first u v k) p) (rw (second u v k) q))

    opens_below : 0 < (both a b).size → pair b.size a.opening b.opening < (both a b).size
    opens_below h =
        let p = parts 0 h in
        put _ _ p.2 (la.opens (omega arith)) (lb.opens (omega arith))

    pub both_lawful : Laws (both a b)
    both_lawful = record {
      reflexive = λ s h. let p = parts s h in (la.reflexive _ p.0, lb.reflexive _ p.1);
      transitive = λ s t u h i j k l.
          let p = parts s h in let q = parts t i in let r = parts u j in
          (la.transitive _ _ _ p.0 q.0 r.0 k.0 l.0, lb.transitive _ _ _ p.1 q.1 r.1 k.1 l.1);
      clean_frees = λ s h.
          let p = parts s h in
          freer_put _ _ s (lb.clean_stays _ p.1) (la.clean_frees _ p.0) (lb.clean_frees _ p.1);
      clean_beats_spoiled = λ s t h e.
          let p = parts s h in
          let j = joined_parts b.size t _ _ e in
          freer_puts _ _ j.0 j.1 t j.4 (lb.clean_stays _ p.1) (lb.spoiled_stays _ _ p.1 j.3)
          (la.clean_beats_spoiled _ _ p.0 j.2) (lb.clean_beats_spoiled _ _ p.1 j.3);
      clean_keeps = λ s t h i k.
          let p = parts s h in let q = parts t i in
          freer_puts _ _ _ _ _ refl (lb.clean_stays _ p.1) (lb.clean_stays _ q.1)
          (la.clean_keeps _ _ p.0 q.0 k.0) (lb.clean_keeps _ _ p.1 q.1 k.1);
      spoiled_keeps = λ s t u h i k e.
          let p = parts s h in let q = parts t i in
          let j = joined_parts b.size u _ _ e in
          let x = la.spoiled_keeps _ _ _ p.0 q.0 k.0 j.2 in
          let y = lb.spoiled_keeps _ _ _ p.1 q.1 k.1 j.3 in (
            pair b.size x.0 y.0,
            joined_from b.size _ _ _ _ x.1 y.1,
            freer_puts _ _ _ _ u j.4 (lb.spoiled_stays _ _ p.1 y.1) (lb.spoiled_stays _ _ q.1 j.3) x.2 y.2,
          );
      clean_stays = λ s h. let p = parts s h in put _ _ p.2 (la.clean_stays _ p.0) (lb.clean_stays _ p.1);
      spoiled_stays = λ s t h e.
          let p = parts s h in
          let j = joined_parts b.size t _ _ e in
          rw j.4 (put _ _ p.2 (la.spoiled_stays _ _ p.0 j.2) (lb.spoiled_stays _ _ p.1 j.3));
      opens = λ h. subst⁻¹ (λ n. n < (both a b).size) (opened h) (opens_below h);
      closed = λ h. without_states (both a b).size _ h;
      small = is_small (a.size * b.size);
    }

    -- each rule walks as it would alone
    walks : (n s : ℕ) → s < (both a b).size →
        (cleans (both a b) n s < (both a b).size)
        × (cleans (both a b) n s / b.size ≡ cleans a n (s / b.size))
        × (cleans (both a b) n s % b.size ≡ cleans b n (s % b.size))
    walks zero s h = (h, refl, refl)
    walks (suc n) s h =
        let w = walks n s h in
        let p = parts _ w.0 in
        let stays = lb.clean_stays _ p.1 in
        (put _ _ p.2 (la.clean_stays _ p.0) stays, first _ _ stays ∙ ap a.clean w.1, second _ _ stays ∙ ap b.clean w.2)

    allowed_each : (f : List ℕ) (s c : ℕ) → s < (both a b).size → Allowed (both a b) s c f → Allowed a (s / b.size) c f × Allowed b (s % b.size) c f
    allowed_each [] s c h e = (tt, tt)
    allowed_each (q ∷ f) s c h (t, late, by, permitted, e) =
        let w = walks (q - c - 1) s h in
        let p = parts _ w.0 in
        let j = joined_parts b.size t _ _ permitted in
        let u = j.0 in
        let v = j.1 in
        let below = lb.spoiled_stays _ v p.1 j.3 in
        let stays : t < (both a b).size = both_lawful.spoiled_stays _ t w.0 permitted in
        let rest = allowed_each f t q stays e in
        let ua : t / b.size ≡ u = ap (λ n. n / b.size) j.4 ∙ first u v below in
        let vb : t % b.size ≡ v = ap (λ n. n % b.size) j.4 ∙ second u v below in (
          (u, late, by, ap a.spoiled (sym w.1) ∙ j.2, subst (λ n. Allowed a n q f) ua rest.0),
          (v, late, by, ap b.spoiled (sym w.2) ∙ j.3, subst (λ n. Allowed b n q f) vb rest.1),
        )

    each_allowed : (f : List ℕ) (s c : ℕ) → s < (both a b).size → Allowed a (s / b.size) c f → Allowed b (s % b.size) c f → Allowed (both a b) s c f
    each_allowed [] s c h x y = tt
    each_allowed (q ∷ f) s c h (u, late, by, permitted, x) (v, late', by', permitted', y) =
        let w = walks (q - c - 1) s h in
        let p = parts _ w.0 in
        let ea = ap a.spoiled w.1 ∙ permitted in
        let eb = ap b.spoiled w.2 ∙ permitted' in
        let below = lb.spoiled_stays _ v p.1 eb in
        let t = pair b.size u v in
        let stays : t < (both a b).size = put u v p.2 (la.spoiled_stays _ u p.0 ea) below in (
          t,
          late,
          by,
          joined_from b.size u v _ _ ea eb,
          each_allowed f t q stays (subst⁻¹ (λ n. Allowed a n q f) (first u v below) x)
              (subst⁻¹ (λ n. Allowed b n q f) (second u v below) y),
        )

    pub both_allow : BothAllows a b
    both_allow h f =
        let p = parts 0 h in
        let below = lb.opens (omega arith) in
        let start = both_lawful.opens h in
        let ea : (both a b).opening / b.size ≡ a.opening = ap (λ n. n / b.size) (opened h) ∙ first a.opening b.opening below in
        let eb : (both a b).opening % b.size ≡ b.opening = ap (λ n. n % b.size) (opened h) ∙ second a.opening b.opening below in (
          λ e.
              let each = allowed_each f _ 0 start e in
              (subst (λ n. Allowed a n 0 f) ea each.0, subst (λ n. Allowed b n 0 f) eb each.1),
          λ w. each_allowed f _ 0 start (subst⁻¹ (λ n. Allowed a n 0 f) ea w.0) (subst⁻¹ (λ n. Allowed b n 0 f) eb w.1),
        )
