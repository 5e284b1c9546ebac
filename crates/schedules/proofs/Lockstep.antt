-- Two worlds side by side: in the earlier one a list of faults is given, in the later one a list is chosen so that it keeps step.
-- In the later world only the first fault of a run is ever used; all its other quarters are clean.
use Rattle.std.proofs.Common.{◌≡◌, ℕ, ◌+◌, ◌-◌, ◌<◌, ◌≤◌, ◌⊎◌, List, [], ◌∷◌, Some, sym, refl, ap, ◌∙◌, inl, inr, arith}
use Rattle.std.proofs.lemmas.Bool.{cases_lt}
use Rattle.rules.specs.Model.{Model, Laws, cleans}
use Rattle.rules.specs.Faults.{Allowed}
use Rattle.inspections.specs.Verdict.{Verdict, Bounded}
use Rattle.schedules.specs.Futures.{Above, Earlier, Reached, Same, Started}
use Rattle.schedules.specs.Runs.{completion}
use Rattle.schedules.proofs.States.{lasts_within, cleans_split, allowed_beyond, allowed_after_wait, above_trans, above_cleans, above_fault, above_hit}
use Rattle.schedules.proofs.Completion.{completion_skip, completion_hit, completion_past, completion_before, completion_grows, same_skip}

-- some list takes the jobs so far past the last quarter
abbrev pub Past : Model → ℕ → ℕ → (List ℕ → ℕ) → Type 0
Past m s0 c0 F = (h : List ℕ) × Allowed m s0 c0 h × (4096 < F h)

-- The later world has kept step with the earlier one, which is at C: it is at a clock no earlier, in a state at least as free.
pub record Step (m : Model) (V : Verdict) (s0 c0 : ℕ) (F : List ℕ → ℕ) (C : ℕ) (f : List ℕ) : Type 0 where
  pub earlier : Earlier m V s0 c0 C f
  pub at : ℕ
  pub state : ℕ
  pub reached : Reached m V s0 c0 F at state
  pub later : C ≤ at
  pub freer : Above m state (cleans m (C - earlier.clock) earlier.state)

abbrev pub Outcome : Model → Verdict → ℕ → ℕ → (List ℕ → ℕ) → ℕ → List ℕ → Type 0
Outcome m V s0 c0 F C f = Step m V s0 c0 F C f ⊎ Past m s0 c0 F

module _ (m : Model) (laws : Laws m) (V : Verdict) (bounded : Bounded V) (s0 c0 : ℕ) where
  -- what follows from C on depends on the faults only by how they finish the runs from there on
  pub outcome_same : (F : List ℕ → ℕ) (C : ℕ) (f g : List ℕ) → Same V C f g → Outcome m V s0 c0 F C g → Outcome m V s0 c0 F C f
  outcome_same F C f g same (inr past) = inr past
  outcome_same F C f g same (inl step) =
      let e = step.earlier in
      inl (record {
        earlier = record {
          state = e.state;
          clock = e.clock;
          rest = e.rest;
          allowed = e.allowed;
          begun = e.begun;
          passed = e.passed;
          base = e.base;
          same = λ p S k. same p S k ∙ e.same p S k;
        };
        at = step.at;
        state = step.state;
        reached = step.reached;
        later = step.later;
        freer = step.freer;
      })

  -- the earlier world's run meets no fault more: neither does the later one's
  done : (F : List ℕ → ℕ) (p S s' S' : ℕ) (f : List ℕ) (e : Earlier m V s0 c0 S f) → S ≤ S' → Above m s' (cleans m (S - e.clock) e.state) →
      Started m V s0 c0 F p S' s' → Outcome m V s0 c0 F (S + p) f
  done F p S s' S' f e late freer started = inl (record {
    earlier = record {
      state = e.state;
      clock = e.clock;
      rest = e.rest;
      allowed = e.allowed;
      begun = e.begun;
      passed = omega (arith, e.passed);
      base = e.base;
      same = λ p' T k. e.same p' T (omega arith);
    };
    at = S' + p;
    state = cleans m p s';
    reached = λ g a.
        let from = started g (allowed_after_wait m s' S' p (S' + p) (omega arith) g a) in
        (from.0, from.1, from.2 ∙ completion_before V p S' g (allowed_beyond m _ (S' + p) g a), λ p' T k. from.3 p' T (omega arith));
    later = omega arith;
    freer = rw (cleans_split m (S + p - e.clock) (S - e.clock) p e.state (omega (arith, e.passed))) (above_cleans m laws p s' _ freer);
  })

  -- the later world's run meets a fault in its quarter x
  pub hit : (F : List ℕ → ℕ) (p x s' S' v : ℕ) → 1 ≤ x → x ≤ p → S' + x ≤ 4096 → m.spoiled (cleans m (x - 1) s') ≡ Some v →
      Started m V s0 c0 F p S' s' → Started m V s0 c0 F p (S' + V p x) (cleans m (V p x - x) v)
  hit F p x s' S' v h k room permitted started g a =
      let lasts = lasts_within bounded p x h k in
      let more = allowed_after_wait m v (S' + x) (V p x - x) (S' + V p x) (omega arith) g a in
      let met : m.spoiled (cleans m (S' + x - S' - 1) s') ≡ Some v = ap (λ n. m.spoiled (cleans m n s')) (omega arith) ∙ permitted in
      let from = started ((S' + x) ∷ g) (v, omega arith, room, met, more) in
      let again = completion_hit V p S' (S' + x) g (omega arith) (omega arith) in
      let place : S' + V p (S' + x - S') ≡ S' + V p x = ap (λ n. S' + V p n) (omega arith) in (
        from.0,
        from.1,
        from.2 ∙ again ∙ ap (λ n. completion V p n g) place,
        λ p' T j. from.3 p' T (omega arith) ∙ completion_skip V p' T (S' + x) g (omega arith),
      )

  -- the earlier world after the fault q
  pub after_fault : (s c q t : ℕ) → s < m.size → c0 ≤ c → Above m (cleans m (c - c0) s0) s → c < q → m.spoiled (cleans m (q - c - 1) s) ≡ Some t →
      Above m (cleans m (q - c0) s0) t
  after_fault s c q t small begun base late permitted =
      rw (cleans_split m (q - c0) (c - c0) (q - c) s0 (omega arith))
      (above_trans m laws _ _ _ (above_cleans m laws (q - c) _ _ base) (above_fault m laws s c q t small late permitted))

  -- One run, or what is left of it: in the earlier world it is begun at S, and the state at the clock c before it is s.
  pub run : (f : List ℕ) (F : List ℕ → ℕ) (p s c S s' S' : ℕ) → Allowed m s c f → c0 ≤ c → c ≤ S → S ≤ S' → Above m (cleans m (c - c0) s0) s →
      Above m s' (cleans m (S - c) s) → Started m V s0 c0 F p S' s' → Outcome m V s0 c0 F (completion V p S f) f
  run [] F p s c S s' S' a begun passed late base freer started =
      done F p S s' S' [] (record { state = s; clock = c; rest = []; allowed = tt; begun = begun; passed = passed; base = base; same = λ p' T k. refl }) late freer started
  run (q ∷ f) F p s c S s' S' (t, after, by, permitted, a) begun passed late base freer started =
      let base' = after_fault s c q t base.1 begun base after permitted in
      elim (cases_lt S q) [
        | inr h ↦
            let lesser : Above m (cleans m (S - c) s) (cleans m (S - q) t) =
            rw (cleans_split m (S - c) (q - c) (S - q) s (omega arith)) (above_cleans m laws (S - q) _ _ (above_fault m laws s c q t base.1 after permitted)) in
            let next = run f F p t q S s' S' a (omega arith) h late base' (above_trans m laws _ _ _ freer lesser) started in
            rw (completion_skip V p S q f h) (outcome_same F _ (q ∷ f) f (same_skip V _ q f (omega (arith, completion_grows V bounded p S f))) next)
        | inl h ↦ elim (cases_lt (S + p) q) [
          | inl k ↦
              rw (completion_past V p S q f k)
              (done F p S s' S' (q ∷ f)
              (record { state = s; clock = c; rest = q ∷ f; allowed = (t, after, by, permitted, a); begun = begun; passed = passed; base = base; same = λ p' T j. refl })
              late freer started)
          | inr k ↦
              let x = q - S in
              let lasts = lasts_within bounded p x (omega arith) (omega arith) in
              elim (cases_lt 4096 (S' + x)) [
                | inl over ↦
                    let from = started [] tt in
                    inr (from.0, from.1, omega (arith, from.2))
                | inr room ↦
                    let permitted' : m.spoiled (cleans m (x - 1) (cleans m (S - c) s)) ≡ Some t =
                    ap m.spoiled (sym (cleans_split m (q - c - 1) (S - c) (x - 1) s (omega arith))) ∙ permitted in
                    let freed = above_hit m laws _ _ t (above_cleans m laws (x - 1) s' _ freer) permitted' in
                    let v = freed.0 in
                    let gap : S + V p x - q ≡ V p x - x = omega arith in
                    let ahead : Above m (cleans m (V p x - x) v) (cleans m (S + V p x - q) t) =
                    rw gap (above_cleans m laws (V p x - x) v t freed.2) in
                    let next = run f F p t q (S + V p x) (cleans m (V p x - x) v) (S' + V p x) a (omega arith) (omega arith) (omega arith) base' ahead
                    (hit F p x s' S' v (omega arith) (omega arith) room freed.1 started) in
                    rw (completion_hit V p S q f h k) (outcome_same F _ (q ∷ f) f (same_skip V _ q f (omega (arith, completion_grows V bounded p (S + V p x) f))) next)
              ]
        ]
      ]
