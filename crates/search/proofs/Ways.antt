-- From chains of runs to lists of faults, and back.
use Rattle.std.proofs.Common.{◌≡◌, ℕ, ◌+◌, ◌-◌, ◌<◌, ◌≤◌, List, [], ◌∷◌, get_or, Some, sym, refl, ap, ◌∙◌, subst, ⊎_elim, arith}
use mathlib.Core.Path.{subst⁻¹}
use Rattle.inspections.specs.Verdict.{Bounded, Verdict}
use Rattle.rules.specs.Faults.{Allowed}
use Rattle.rules.specs.Model.{Laws, Model, cleans}
use Rattle.schedules.proofs.Completion.{completion_before, completion_grows, completion_hit, completion_past, completion_skip, same_skip}
use Rattle.schedules.proofs.Lockstep.{after_fault, hit}
use Rattle.schedules.proofs.States.{above_cleans, above_fault, above_hit, above_trans, allowed_after_wait, allowed_beyond, cleans_split, lasts_within}
use Rattle.schedules.specs.Futures.{Above, Reached, Same, Started}
use Rattle.schedules.specs.Runs.{completion}
use Rattle.search.specs.Chains.{Chain, Ends, Passes, Searched, Starts, again, first}
use Rattle.search.specs.Fronts.{Begun, By, CanPass, Covered, Front, Lands}
use Rattle.search.specs.Hits.{Hit}
use Rattle.search.specs.Rows.{Covers}
use Rattle.std.proofs.lemmas.Bool.{cases_lt}

module _ (m : Model) where
  -- what covers is an entry
  pub covered_from : (row : List ℕ) (s' t' s t : ℕ) → Covers row s' t' → t ≤ t' → Above m s' s → Covered m row s t
  covered_from row s' t' s t c l f = record { state = s'; time = get_or row s' 0 - 1; entry = omega arith; later = omega arith; freer = f }

  pub covered_grows : (old new : List ℕ) → ((s : ℕ) → get_or old s 0 ≤ get_or new s 0) → (s t : ℕ) → Covered m old s t → Covered m new s t
  covered_grows old new k s t a = covered_from new a.state a.time s t (omega (arith, a.entry, k a.state)) a.later a.freer

  module _ (laws : Laws m) where
    pub covered_less : (row : List ℕ) (s u t : ℕ) → Above m s u → Covered m row s t → Covered m row u t
    covered_less row s u t f a = record { state = a.state; time = a.time; entry = a.entry; later = a.later; freer = above_trans m laws _ _ _ a.freer f }

-- what a list leads to depends on the faults only by how they finish the runs from there on
pub lands_same : (m : Model) (V : Verdict) (s0 c0 : ℕ) (row : List ℕ) (C : ℕ) (f g : List ℕ) → Same V C f g → Lands m V s0 c0 row C g → Lands m V s0 c0 row C f
lands_same m V s0 c0 row C f g same (e, covered) = (
  record {
    state = e.state;
    clock = e.clock;
    rest = e.rest;
    allowed = e.allowed;
    begun = e.begun;
    passed = e.passed;
    base = e.base;
    same = λ p S k. same p S k ∙ e.same p S k;
  },
  covered,
)

pub lands_grows : (m : Model) (V : Verdict) (s0 c0 : ℕ) (old new : List ℕ) (C : ℕ) (f : List ℕ) → ((s : ℕ) → get_or old s 0 ≤ get_or new s 0) → Lands m V s0 c0 old C f → Lands m V s0 c0 new C f
lands_grows m V s0 c0 old new C f keeps (e, covered) = (e, covered_grows m old new keeps _ C covered)

module _ (m : Model) (laws : Laws m) (V : Verdict) (bounded : Bounded V) (s0 c0 p due : ℕ) where
  -- a run that is begun and meets no fault ends the job
  pub started_ends : (F : List ℕ → ℕ) (s S : ℕ) → Started m V s0 c0 F p S s → Reached m V s0 c0 F (S + p) (cleans m p s)
  started_ends F s S started g a =
      let from = started g (allowed_after_wait m s S p (S + p) (omega arith) g a) in
      (from.0, from.1, from.2 ∙ completion_before V p S g (allowed_beyond m _ (S + p) g a), λ p' T k. from.3 p' T (omega arith))

  -- a run that is hit at q ≤ 4096, of which g quarters were gone, begins again
  pub hit_starts : (F : List ℕ → ℕ) (s t s' t' : ℕ) → t + p ≤ 4096 → Started m V s0 c0 F p t s → Hit m V p 0 p s t s' t' → Started m V s0 c0 F p t' s'
  hit_starts F s t s' t' room started h =
      let x = h.before + 1 in
      let permitted : m.spoiled (cleans m (x - 1) s) ≡ Some h.spoiled = ap (λ n. m.spoiled (cleans m n s)) (omega arith) ∙ h.permitted in
      let next = hit m laws V bounded s0 c0 F p x s t h.spoiled (omega arith) (omega (arith, h.early)) (omega (arith, h.early)) permitted started in
      subst (λ n. Started m V s0 c0 F p n s') (sym h.time) (subst (λ n. Started m V s0 c0 F p (t + V p x) n) (sym h.state) next)

  pub chain_started : (F : List ℕ → ℕ) (row : List ℕ) → due ≤ 4096 → ((s t : ℕ) → Starts m row s t → Started m V s0 c0 F p t s) → (s t : ℕ) → Chain m V p due row s t →
      Started m V s0 c0 F p t s
  chain_started F row small started s t (first i) = started s t i
  chain_started F row small started s' t' (again {s} {t} chain by h) = hit_starts F s t s' t' (omega arith) (chain_started F row small started s t chain) h

  module _ (all finish : List ℕ) (closed : (s t s' t' : ℕ) → Starts m all s t → Hit m V p 0 p s t s' t' → Covers all s' t')
      (ended : (s t : ℕ) → Starts m all s t → Covers finish (cleans m p s) (t + p)) where
    -- the run meets no fault more
    clear_lands : (f : List ℕ) (s c S : ℕ) → Allowed m s c f → c0 ≤ c → c ≤ S → Above m (cleans m (c - c0) s0) s → Covered m all (cleans m (S - c) s) S → Lands m V s0 c0 finish (S + p) f
    clear_lands f s c S a begun passed base covered = (
      record { state = s; clock = c; rest = f; allowed = a; begun = begun; passed = omega arith; base = base; same = λ p' T k. refl },
      covered_from m finish (cleans m p covered.state) (covered.time + p) _ (S + p) (ended covered.state covered.time (covered.freer.0, covered.entry)) (omega (arith, covered.later))
          (rw (cleans_split m (S + p - c) (S - c) p s (omega arith)) (above_cleans m laws p _ _ covered.freer)),
    )

    -- where a run can be hit, one that covers it can be too, in the same quarter of it, and covers it again
    hit_covered : (s S x u : ℕ) → 1 ≤ x → x ≤ p → m.spoiled (cleans m (x - 1) s) ≡ Some u → Covered m all s S → Covered m all (cleans m (V p x - x) u) (S + V p x)
    hit_covered s S x u h k permitted covered =
        let freed = above_hit m laws _ _ u (above_cleans m laws (x - 1) _ _ covered.freer) permitted in
        let v = freed.0 in
        let one : x - 1 + 1 ≡ x = omega arith in
        let found = closed covered.state covered.time (cleans m (V p x - x) v) (covered.time + V p x) (covered.freer.0, covered.entry) (record {
          before = x - 1;
          gone = omega arith;
          early = omega arith;
          spoiled = v;
          permitted = ap (λ n. m.spoiled (cleans m n covered.state)) (omega arith) ∙ freed.1;
          state = ap (λ n. cleans m (V p n - n) v) (sym one);
          time = ap (λ n. covered.time + V p n) (sym one);
        }) in
        covered_from m all (cleans m (V p x - x) v) (covered.time + V p x) _ (S + V p x) found (omega (arith, covered.later)) (above_cleans m laws (V p x - x) v u freed.2)

    -- a fault before the run
    skip_lands : (q : ℕ) (f : List ℕ) (S : ℕ) → q ≤ S → Lands m V s0 c0 finish (completion V p S f) f → Lands m V s0 c0 finish (completion V p S (q ∷ f)) (q ∷ f)
    skip_lands q f S h next =
        subst⁻¹ (λ C. Lands m V s0 c0 finish C (q ∷ f)) (completion_skip V p S q f h)
        (lands_same m V s0 c0 finish (completion V p S f) (q ∷ f) f (same_skip V _ q f (omega (arith, completion_grows V bounded p S f))) next)

    -- a fault in the run
    hit_lands : (q : ℕ) (f : List ℕ) (S : ℕ) → S < q → q ≤ S + p → Lands m V s0 c0 finish (completion V p (S + V p (q - S)) f) f → Lands m V s0 c0 finish (completion V p S (q ∷ f)) (q ∷ f)
    hit_lands q f S h k next =
        let lasts = lasts_within bounded p (q - S) (omega arith) (omega arith) in
        subst⁻¹ (λ C. Lands m V s0 c0 finish C (q ∷ f)) (completion_hit V p S q f h k)
        (lands_same m V s0 c0 finish _ (q ∷ f) f (same_skip V _ q f (omega (arith, completion_grows V bounded p (S + V p (q - S)) f))) next)

    -- a fault after the run
    past_lands : (q : ℕ) (f : List ℕ) (S : ℕ) → S + p < q → Lands m V s0 c0 finish (S + p) (q ∷ f) → Lands m V s0 c0 finish (completion V p S (q ∷ f)) (q ∷ f)
    past_lands q f S k next = subst⁻¹ (λ C. Lands m V s0 c0 finish C (q ∷ f)) (completion_past V p S q f k) next

    -- what covers the run covers it after a fault before it
    skip_covered : (s c q t S : ℕ) → s < m.size → c < q → q ≤ S → m.spoiled (cleans m (q - c - 1) s) ≡ Some t → Covered m all (cleans m (S - c) s) S → Covered m all (cleans m (S - q) t) S
    skip_covered s c q t S inside after h permitted covered =
        let lesser : Above m (cleans m (S - c) s) (cleans m (S - q) t) =
        rw (cleans_split m (S - c) (q - c) (S - q) s (omega arith)) (above_cleans m laws (S - q) _ _ (above_fault m laws s c q t inside after permitted)) in
        covered_less m laws all _ _ S lesser covered

    -- and after a fault in it
    again_covered : (s c q t S : ℕ) → c ≤ S → S < q → q ≤ S + p → m.spoiled (cleans m (q - c - 1) s) ≡ Some t → Covered m all (cleans m (S - c) s) S →
        Covered m all (cleans m (S + V p (q - S) - q) t) (S + V p (q - S))
    again_covered s c q t S passed h k permitted covered =
        let x = q - S in
        let lasts = lasts_within bounded p x (omega arith) (omega arith) in
        let permitted' : m.spoiled (cleans m (x - 1) (cleans m (S - c) s)) ≡ Some t =
        ap m.spoiled (sym (cleans_split m (q - c - 1) (S - c) (x - 1) s (omega arith))) ∙ permitted in
        let gap : V p x - x ≡ S + V p x - q = omega arith in
        subst (λ n. Covered m all (cleans m n t) (S + V p x)) gap (hit_covered (cleans m (S - c) s) S x t (omega arith) (omega arith) permitted' covered)

    -- One run, or what is left of it: it begins at S, and the state at the clock c before it is s.
    pub run_lands : (f : List ℕ) (s c S : ℕ) → Allowed m s c f → c0 ≤ c → c ≤ S → Above m (cleans m (c - c0) s0) s → Covered m all (cleans m (S - c) s) S →
        Lands m V s0 c0 finish (completion V p S f) f
    run_lands [] s c S a begun passed base covered = clear_lands [] s c S a begun passed base covered
    run_lands (q ∷ f) s c S (t, after, by, permitted, a) begun passed base covered =
        let base' = after_fault m laws V bounded s0 c0 s c q t base.1 begun base after permitted in
        let begun' : c0 ≤ q = omega arith in
        ⊎_elim
        (λ h. ⊎_elim
        (λ k. past_lands q f S k (clear_lands (q ∷ f) s c S (t, after, by, permitted, a) begun passed base covered))
        (λ k.
        let lasts = lasts_within bounded p (q - S) (omega arith) (omega arith) in
        let passed' : q ≤ S + V p (q - S) = omega arith in
        hit_lands q f S h k (run_lands f t q (S + V p (q - S)) a begun' passed' base' (again_covered s c q t S passed h k permitted covered)))
        (cases_lt (S + p) q))
        (λ h. skip_lands q f S h (run_lands f t q S a begun' h base' (skip_covered s c q t S base.1 after h permitted covered)))
        (cases_lt S q)

  -- the runs that were found are all that there are
  pub front_from : (F : List ℕ → ℕ) (row all finish finish' : List ℕ) → due ≤ 4096 → Begun m V s0 c0 F p due row finish → Searched m V p due row all finish finish' → Front m V s0 c0 F finish'
  front_from F row all finish finish' small begun searched = record {
    reached = λ s t i. ⊎_elim (λ was. begun.ended s t (i.0, was)) (λ e. ends s t e) (searched.sound s t i.1);
    covers = λ f a. ⊎_elim (lands_grows m V s0 c0 finish finish' (F f) f searched.keeps) (λ b.
        let e = b.lands.0 in
        let covered = covered_grows m row all searched.grown _ b.start b.lands.1 in
        let found = run_lands all finish' searched.closed searched.ended e.rest e.state e.clock b.start e.allowed e.begun e.passed e.base covered in
        let same : completion V p b.start e.rest ≡ F f = sym (b.ends ∙ e.same p b.start (omega arith)) in
        let grows = completion_grows V bounded p b.start e.rest in
        subst (λ C. Lands m V s0 c0 finish' C f) same (lands_same m V s0 c0 finish' _ f e.rest (λ p' T k. e.same p' T (omega arith)) found)) (begun.covers f a);
  }
    where
      ends : (s t : ℕ) → Ends m V p due row s t → Reached m V s0 c0 F t s
      ends s t e =
          subst (λ n. Reached m V s0 c0 F n s) (sym e.time) (subst (λ n. Reached m V s0 c0 F (e.start + p) n) (sym e.state)
          (started_ends F e.from e.start (chain_started F row small begun.started e.from e.start e.chain)))

  pub by_from : (F : List ℕ → ℕ) (row all finish finish' : List ℕ) → Begun m V s0 c0 F p due row finish → Searched m V p due row all finish finish' → By m due finish'
  by_from F row all finish finish' begun searched s t i = ⊎_elim (λ was. begun.by s t (i.0, was)) (λ e. e.by) (searched.sound s t i.1)

  pub pass_from : (F : List ℕ → ℕ) (row finish : List ℕ) → due ≤ 4096 → Begun m V s0 c0 F p due row finish → Passes m V p due row → CanPass m s0 c0 F due
  pass_from F row finish small begun late =
      let from = chain_started F row small begun.started late.from late.start late.chain [] tt in
      (from.0, from.1, omega (arith, from.2, late.passes))
