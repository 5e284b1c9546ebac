-- Tests over the lists of faults that a rule allows in the coming quarters, and what they say of all its allowed lists.
use Rattle.std.proofs.Common.{◌≡◌, ℕ, zero, suc, ◌+◌, ◌-◌, ◌<◌, ◌≤◌, Bool, true, false, ◌&&◌, ◌||◌, List, [], ◌∷◌, ◌++◌, Some, None, Option, sym, refl, ap, ◌∙◌, subst, inl, inr, arith}
use Rattle.std.proofs.lemmas.Bool.{cases_lt, and_parts, or_cases, false≢true}
use Rattle.rules.specs.Model.{Model, cleans}
use Rattle.rules.specs.Faults.{Allowed}
use Rattle.schedules.specs.Futures.{Beyond}
use Rattle.schedules.proofs.States.{cleans_split, allowed_beyond, allowed_after_wait}

-- the test passes at the state, if there is one
abbrev pub if_any : Option ℕ → (ℕ → Bool) → Bool
if_any None test = true
if_any (Some t) test = test t

-- there is a state, and the test passes at it
abbrev pub is_any : Option ℕ → (ℕ → Bool) → Bool
is_any None test = false
is_any (Some t) test = test t

if_any_at : (o : Option ℕ) (test : ℕ → Bool) (t : ℕ) → o ≡ Some t → if_any o test ≡ true → test t ≡ true
if_any_at None test t e h = let z : ◌≡◌ {A = ℕ} 0 1 = cc in absurd (omega arith)
if_any_at (Some u) test t e h = let same : u ≡ t = cc in rw (← same) h

is_any_at : (o : Option ℕ) (test : ℕ → Bool) → is_any o test ≡ true → (t : ℕ) × (o ≡ Some t) × (test t ≡ true)
is_any_at None test h = absurd (false≢true h)
is_any_at (Some t) test h = (t, refl, h)

module _ (m : Model) where
  -- the test passes at every list of faults that the rule permits in the n quarters after the clock c, from the state s on
  abbrev pub every : ℕ → ℕ → ℕ → (List ℕ → Bool) → Bool
  every zero s c test = test []
  every (suc n) s c test = every n (m.clean s) (suc c) test && if_any (m.spoiled s) (λ t. every n t (suc c) (λ f. test (suc c ∷ f)))

  -- the test passes at some such list
  abbrev pub some : ℕ → ℕ → ℕ → (List ℕ → Bool) → Bool
  some zero s c test = test []
  some (suc n) s c test = some n (m.clean s) (suc c) test || is_any (m.spoiled s) (λ t. some n t (suc c) (λ f. test (suc c ∷ f)))

  -- the faults f up to the clock N, at which the test passes, and the faults after it
  pub record Front (N : ℕ) (test : List ℕ → Bool) (f : List ℕ) : Type 0 where
    pub front : List ℕ
    pub rest : List ℕ
    pub parts : f ≡ front ++ rest
    pub beyond : Beyond N rest
    pub passes : test front ≡ true

  -- what is allowed, and begins after the coming quarter, is allowed after it as a clean one
  allowed_next : (s c q : ℕ) (f : List ℕ) → suc c < q → Allowed m s c (q ∷ f) → Allowed m (m.clean s) (suc c) (q ∷ f)
  allowed_next s c q f h (t, late, early, permitted, rest) =
      (t, h, early, ap m.spoiled (sym (cleans_split m (q - c - 1) 1 (q - suc c - 1) s (omega arith))) ∙ permitted, rest)

  -- the two parts of a test over one quarter more: the lists that leave it clean, and those that begin with it
  every_parts : (n s c : ℕ) (test : List ℕ → Bool) → every (suc n) s c test ≡ true →
      (every n (m.clean s) (suc c) test ≡ true) × (if_any (m.spoiled s) (λ t. every n t (suc c) (λ f. test (suc c ∷ f))) ≡ true)
  every_parts n s c test h = and_parts (every n (m.clean s) (suc c) test) (if_any (m.spoiled s) (λ t. every n t (suc c) (λ f. test (suc c ∷ f)))) h

  -- a test that passes at every list up to the clock N passes at the front of every allowed list
  pub every_front : (n s c N : ℕ) (test : List ℕ → Bool) → N ≡ c + n → every n s c test ≡ true → (f : List ℕ) → Allowed m s c f → Front N test f
  every_front zero s c N test e h f a = record {
    front = [];
    rest = f;
    parts = refl;
    beyond = let at : N ≡ c = omega arith in rw at (allowed_beyond m s c f a);
    passes = h;
  }
  every_front (suc n) s c N test e h [] a =
      every_front n (m.clean s) (suc c) N test (omega arith) (every_parts n s c test h).0 [] tt
  every_front (suc n) s c N test e h (q ∷ f) a = elim (cases_lt (suc c) q) [
    | inl later ↦ every_front n (m.clean s) (suc c) N test (omega arith) (every_parts n s c test h).0 (q ∷ f) (allowed_next s c q f later a)
    | inr now ↦
        let here : q ≡ suc c = omega (arith, a.1) in
        let none : q - c - 1 ≡ 0 = omega arith in
        let permitted : m.spoiled s ≡ Some a.0 = ap (λ n. m.spoiled (cleans m n s)) (sym none) ∙ a.3 in
        let found = every_front n a.0 (suc c) N (λ g. test (suc c ∷ g)) (omega arith)
        (if_any_at (m.spoiled s) (λ t. every n t (suc c) (λ g. test (suc c ∷ g))) a.0 permitted (every_parts n s c test h).1) f
        (subst (λ x. Allowed m a.0 x f) here a.4) in record {
          front = suc c ∷ found.front;
          rest = found.rest;
          parts = let tail = found.parts in cc;
          beyond = found.beyond;
          passes = found.passes;
        }
  ]

  -- a test that passes at some list passes at an allowed one
  pub some_allowed : (n s c : ℕ) (test : List ℕ → Bool) → c + n ≤ 4096 → some n s c test ≡ true → (f : List ℕ) × Allowed m s c f × (test f ≡ true)
  some_allowed zero s c test h e = ([], tt, e)
  some_allowed (suc n) s c test h e = elim (or_cases (some n (m.clean s) (suc c) test) (is_any (m.spoiled s) (λ t. some n t (suc c) (λ f. test (suc c ∷ f)))) e) [
    | inl clean ↦
        let found = some_allowed n (m.clean s) (suc c) test (omega arith) clean in
        (found.0, allowed_after_wait m s c 1 (suc c) (omega arith) found.0 found.1, found.2)
    | inr spoiled ↦
        let next = is_any_at (m.spoiled s) (λ t. some n t (suc c) (λ g. test (suc c ∷ g))) spoiled in
        let found = some_allowed n next.0 (suc c) (λ g. test (suc c ∷ g)) (omega arith) next.2 in
        let none : suc c - c - 1 ≡ 0 = omega arith in
        (suc c ∷ found.0, (next.0, omega arith, omega arith, ap (λ k. m.spoiled (cleans m k s)) none ∙ next.1, found.1), found.2)
  ]
