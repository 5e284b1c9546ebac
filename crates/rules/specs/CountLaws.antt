-- The count rule: its laws, and what it allows.
use Rattle.std.specs.Prelude.{◌≡◌, ℕ, zero, suc, ◌-◌, ◌<◌, ◌≤◌, List, [], ◌∷◌, length, Some, refl}
use Rattle.std.proofs.Common.{sym, ap, ◌∙◌, arith}
use Rattle.std.proofs.lemmas.Bool.Decides.{nat_tests}
use Rattle.rules.specs.Model.{Laws, cleans}
use Rattle.rules.specs.Faults.{Allowed, Increasing, Within}
use Rattle.rules.specs.Count.{count, CountAllows}

pub count_lawful : (k : ℕ) → Laws (count k)
count_lawful k = record {
  reflexive = λ s h. omega arith;
  transitive = λ s t u h i j p q. omega arith;
  clean_frees = λ s h. omega arith;
  clean_beats_spoiled = λ s t h e. grind (arith, nat_tests);
  clean_keeps = λ s t h i p. p;
  spoiled_keeps = λ s t u h i p e. (s - 1, grind (arith, nat_tests), grind (arith, nat_tests));
  clean_stays = λ s h. h;
  spoiled_stays = λ s t h e. grind (arith, nat_tests);
  opens = λ h. omega arith;
  closed = λ h. omega arith;
  small = grind (arith, nat_tests);
}

still : (k n s : ℕ) → cleans (count k) n s ≡ s
still k zero s = refl
still k (suc n) s = still k n s

spends : (k s t : ℕ) → (count k).spoiled s ≡ Some t → (0 < s) × (t ≡ s - 1)
spends k s t e = (grind (arith, nat_tests), grind (arith, nat_tests))

left_over : (k s : ℕ) → 0 < s → (count k).spoiled s ≡ Some (s - 1)
left_over k s h = grind (arith, nat_tests)

opens_full : (k : ℕ) → k < 512 → (count k).opening ≡ k
opens_full k h = grind (arith, nat_tests)

allowed_few : (k s c : ℕ) (f : List ℕ) → Allowed (count k) s c f → Increasing c f × Within f × (length f ≤ s)
allowed_few k s c [] a = (tt, tt, omega arith)
allowed_few k s c (q ∷ f) (t, late, by, permitted, a) =
    let left = spends k s t (ap (count k).spoiled (sym (still k (q - c - 1) s)) ∙ permitted) in
    let more = allowed_few k t q f a in
    ((late, more.0), (by, more.1), omega (arith, left, more.2))

few_allowed : (k s c : ℕ) (f : List ℕ) → Increasing c f → Within f → length f ≤ s → Allowed (count k) s c f
few_allowed k s c [] i w l = tt
few_allowed k s c (q ∷ f) i w l =
    (s - 1, i.0, w.0, ap (count k).spoiled (still k (q - c - 1) s) ∙ left_over k s (omega arith), few_allowed k (s - 1) q f i.1 w.1 (omega arith))

pub count_allows : (k : ℕ) → CountAllows k
count_allows k h f =
    let full = opens_full k h in (
      λ a. let few = allowed_few k (count k).opening 0 f a in (few.0, few.1, omega arith),
      λ w. few_allowed k (count k).opening 0 f w.0 w.1 (omega arith),
    )
