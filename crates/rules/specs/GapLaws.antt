-- The gap rule: its laws, and what it allows.
use Rattle.std.specs.Prelude.{◌≡◌, ℕ, zero, suc, ◌+◌, ◌-◌, ◌<◌, ◌≤◌, min, List, [], ◌∷◌, Some}
use Rattle.std.proofs.Common.{arith}
use Rattle.std.proofs.lemmas.Bool.Decides.{nat_tests}
use Rattle.rules.specs.Model.{Laws, cleans}
use Rattle.rules.specs.Faults.{Allowed, Increasing, Within}
use Rattle.rules.specs.Gap.{gap, GapAllows, Spaced}

pub gap_lawful : (d : ℕ) → Laws (gap d)
gap_lawful d = record {
  reflexive = λ s h. omega arith;
  transitive = λ s t u h i j p q. omega arith;
  clean_frees = λ s h. grind (arith, nat_tests);
  clean_beats_spoiled = λ s t h e. grind (arith, nat_tests);
  clean_keeps = λ s t h i p. omega arith;
  spoiled_keeps = λ s t u h i p e. (0, grind (arith, nat_tests), grind (arith, nat_tests));
  clean_stays = λ s h. grind (arith, nat_tests);
  spoiled_stays = λ s t h e. grind (arith, nat_tests);
  opens = λ h. omega arith;
  closed = λ h. omega arith;
  small = grind (arith, nat_tests);
}

grows : (d n s : ℕ) → s < d → cleans (gap d) n s ≡ min (s + n) (d - 1)
grows d zero s h = omega arith
grows d (suc n) s h = omega (arith, grows d n s h)

full : (d s t : ℕ) → (gap d).spoiled s ≡ Some t → (s + 1 ≡ d) × (t ≡ 0)
full d s t e = (grind (arith, nat_tests), grind (arith, nat_tests))

full_permits : (d s : ℕ) → s + 1 ≡ d → (gap d).spoiled s ≡ Some 0
full_permits d s h = grind (arith, nat_tests)

opens_far : (d : ℕ) → d ≤ 512 → (gap d).opening ≡ d - 1
opens_far d h = grind (arith, nat_tests)

-- the first fault after the clock c, in the state s there, is far enough off; and so is each from the one before it
abbrev Far : ℕ → ℕ → ℕ → List ℕ → Type 0
Far d s c [] = Unit {0}
Far d s c (q ∷ f) = (c + d ≤ q + s) × Far d 0 q f

allowed_far : (d s c : ℕ) (f : List ℕ) → s < d → Allowed (gap d) s c f → Increasing c f × Within f × Far d s c f
allowed_far d s c [] h a = (tt, tt, tt)
allowed_far d s c (q ∷ f) h (t, late, by, permitted, a) =
    let there = full d (cleans (gap d) (q - c - 1) s) t permitted in
    let known = grows d (q - c - 1) s h in
    let more = allowed_far d 0 q f (omega arith) (rw there.1 at a) in
    ((late, more.0), (by, more.1), (omega arith, more.2))

far_allowed : (d s c : ℕ) (f : List ℕ) → s < d → Increasing c f → Within f → Far d s c f → Allowed (gap d) s c f
far_allowed d s c [] h i w r = tt
far_allowed d s c (q ∷ f) h i w r =
    let known = grows d (q - c - 1) s h in
    (0, i.0, w.0, full_permits d (cleans (gap d) (q - c - 1) s) (omega arith), far_allowed d 0 q f (omega arith) i.1 w.1 r.1)

spaced_far : (d q : ℕ) (f : List ℕ) → Spaced d (q ∷ f) → Far d 0 q f
spaced_far d q [] s = tt
spaced_far d q (r ∷ f) s = (omega arith, spaced_far d r f s.1)

far_spaced : (d q : ℕ) (f : List ℕ) → Far d 0 q f → Spaced d (q ∷ f)
far_spaced d q [] r = tt
far_spaced d q (r ∷ f) s = (omega arith, far_spaced d r f s.1)

opening_spaced : (d s : ℕ) (f : List ℕ) → Far d s 0 f → Spaced d f
opening_spaced d s [] r = tt
opening_spaced d s (q ∷ f) r = far_spaced d q f r.1

spaced_opening : (d s : ℕ) (f : List ℕ) → s ≡ d - 1 → Increasing 0 f → Spaced d f → Far d s 0 f
spaced_opening d s [] e i r = tt
spaced_opening d s (q ∷ f) e i r = (omega arith, spaced_far d q f r)

pub gap_allows : (d : ℕ) → GapAllows d
gap_allows d h k f =
    let far = opens_far d k in
    let start = (gap d).opening in (
      λ a. let r = allowed_far d start 0 f (omega arith) a in (r.0, r.1, opening_spaced d start f r.2),
      λ w. far_allowed d start 0 f (omega arith) w.0 w.1 (spaced_opening d start f far w.0 w.2),
    )
