-- How a job begins: a waiting one, and the one on the machine.
use Rattle.std.proofs.Common.{◌≡◌, ℕ, ◌+◌, ◌-◌, ◌<◌, ◌≤◌, max, ◌⊎◌, List, [], ◌∷◌, Some, sym, refl, ap, ◌∙◌, subst, inl, inr, ⊎_elim, arith}
use mathlib.Core.Path.{subst⁻¹}
use Rattle.inspections.specs.Verdict.{Bounded, Verdict}
use Rattle.rules.specs.Faults.{Allowed}
use Rattle.rules.specs.Model.{Laws, Model, cleans}
use Rattle.schedules.proofs.Completion.{completion_before, completion_hit, completion_past, same_skip}
use Rattle.schedules.proofs.Following.{begin, quiet_then, reached_clean}
use Rattle.schedules.proofs.States.{above_cleans, above_fault, above_refl, above_wait, allowed_after_wait, allowed_beyond, cleans_split, lasts_within}
use Rattle.schedules.specs.Futures.{Above, Reached, Started, and_then}
use Rattle.schedules.specs.Runs.{Slot, completion}
use Rattle.search.proofs.Ways.{covered_from}
use Rattle.search.specs.Chains.{Starts}
use Rattle.search.specs.Fronts.{Begins, Begun, Front, Lands, Path}
use Rattle.search.specs.Hits.{Hit}
use Rattle.search.specs.Rows.{Empty, Grew, In, KeepsOne, Since}
use Rattle.std.proofs.lemmas.Bool.{cases_lt}

-- an empty row starts nothing
pub none_in : (row : List ℕ) → Empty row → (s t : ℕ) → In row s t → ⊥
none_in row z s t i = omega (arith, z s)

-- what was kept in an empty row
pub kept_only : (P : ℕ → ℕ → Type 0) (zeros row : List ℕ) → Empty zeros → Grew P zeros row → (s t : ℕ) → In row s t → P s t
kept_only P zeros row z g s t i = ⊎_elim (λ was. absurd (none_in zeros z s t was)) (λ x. x) (g.sound s t i)

module _ (m : Model) (laws : Laws m) (V : Verdict) (bounded : Bounded V) (s0 c0 : ℕ) (small : s0 < m.size) where
  -- a waiting job, where the machine is free at t in the state s on the path without faults
  module _ (F : List ℕ → ℕ) (k : Slot) (row mid row' finish : List ℕ) (t s start state : ℕ) (path : Path m s0 c0 F t s) (front : Front m V s0 c0 F row)
      (since : Since k.start row mid) (is : start ≡ max k.start t) (at : state ≡ cleans m (start - t) s) (kept : Grew (KeepsOne state start) mid row') (empty : Empty finish) where
    walked : state ≡ cleans m (start - c0) s0
    walked =
        at ∙ ap (cleans m (start - t)) (path.state ∙ ap (λ n. cleans m (n - c0) s0) (sym path.time))
        ∙ sym (cleans_split m (start - c0) (t - c0) (start - t) s0 (omega (arith, path.quiet.begun, path.time)))

    abbrev G : List ℕ → ℕ
    G = and_then V F k

    quiet_start : Started m V s0 c0 G k.run start state
    quiet_start =
        let from = begin m laws V bounded s0 c0 small F k (F []) (cleans m (F [] - c0) s0) (reached_clean m laws V bounded s0 c0 small F path.quiet) in
        let begun : max k.start (F []) ≡ start = omega (arith, path.time) in
        let there : cleans m (max k.start (F []) - F []) (cleans m (F [] - c0) s0) ≡ state =
        sym (cleans_split m (start - c0) (F [] - c0) (max k.start (F []) - F []) s0 (omega (arith, path.quiet.begun))) ∙ sym walked in
        subst (λ n. Started m V s0 c0 G k.run n state) begun (subst (Started m V s0 c0 G k.run (max k.start (F []))) there from)

    row_start : (u n : ℕ) → Starts m row u n → k.start ≤ n → Started m V s0 c0 G k.run n u
    row_start u n i late =
        let from = begin m laws V bounded s0 c0 small F k n u (front.reached u n i) in
        let soon : max k.start n ≡ n = omega arith in
        let none : max k.start n - n ≡ 0 = omega arith in
        let still : cleans m (max k.start n - n) u ≡ u = ap (λ x. cleans m x u) none in
        subst (λ x. Started m V s0 c0 G k.run x u) soon (subst (Started m V s0 c0 G k.run (max k.start n)) still from)

    waiting_started : (u n : ℕ) → Starts m row' u n → Started m V s0 c0 G k.run n u
    waiting_started u n i =
        ⊎_elim (λ was. let old = (since u n).0 was in row_start u n (i.0, old.0) old.1)
        (λ one. subst (λ x. Started m V s0 c0 G k.run x u) (sym one.1) (subst (Started m V s0 c0 G k.run start) (sym one.0) quiet_start))
        (kept.sound u n i.1)

    -- the job begins as soon as the machine is free
    soon_lands : (f : List ℕ) → k.start ≤ F f → Lands m V s0 c0 row (F f) f → Lands m V s0 c0 row' (max k.start (F f)) f
    soon_lands f soon (e, covered) =
        let same : F f ≡ max k.start (F f) = omega arith in
        let still = (since covered.state covered.time).1 (covered.entry, omega (arith, covered.later)) in
        subst (λ C. Lands m V s0 c0 row' C f) same
        (e, covered_from m row' covered.state covered.time _ (F f) (omega (arith, still, kept.keeps covered.state)) covered.later covered.freer)

    -- it begins at its own start
    own_lands : (f : List ℕ) → F f < k.start → Lands m V s0 c0 row (F f) f → Lands m V s0 c0 row' (max k.start (F f)) f
    own_lands f own (e, covered) =
        let S = max k.start (F f) in
        let longer : state ≡ cleans m (start - S) (cleans m (S - e.clock) (cleans m (e.clock - c0) s0)) =
        walked ∙ cleans_split m (start - c0) (S - c0) (start - S) s0 (omega (arith, e.begun, e.passed))
        ∙ ap (cleans m (start - S)) (cleans_split m (S - c0) (e.clock - c0) (S - e.clock) s0 (omega (arith, e.begun, e.passed))) in (
          record {
            state = e.state;
            clock = e.clock;
            rest = e.rest;
            allowed = e.allowed;
            begun = e.begun;
            passed = omega (arith, e.passed);
            base = e.base;
            same = λ p T h. e.same p T (omega arith);
          },
          covered_from m row' state start _ S (kept.covers state start (refl, refl)) (omega arith)
              (rw longer (above_wait m laws (start - S) _ _ (above_cleans m laws (S - e.clock) _ _ e.base))),
        )

    pub waiting_begun : (due : ℕ) → Begun m V s0 c0 G k.run due row' finish
    waiting_begun due = record {
      started = waiting_started;
      ended = λ u n i. absurd (none_in finish empty u n i.1);
      by = λ u n i. absurd (none_in finish empty u n i.1);
      covers = λ f a. inr (record {
        start = max k.start (F f);
        ends = refl;
        lands = ⊎_elim (λ own. own_lands f own (front.covers f a)) (λ soon. soon_lands f soon (front.covers f a)) (cases_lt (F f) k.start);
      });
    }

    pub waiting_path : (n u : ℕ) → n ≡ start + k.run → u ≡ cleans m k.run state → Path m s0 c0 G n u
    waiting_path n u time there = record {
      quiet = quiet_then m laws V bounded s0 c0 small F k path.quiet;
      time = time ∙ ap (λ x. x + k.run) begun;
      state = there ∙ ap (cleans m k.run) walked
          ∙ sym (cleans_split m (max k.start (F []) + k.run - c0) (start - c0) k.run s0 (omega (arith, begun, path.quiet.begun)));
    }
      where
        begun : start ≡ max k.start (F [])
        begun = omega (arith, is, path.time)

  no_time : c0 - c0 ≡ 0
  no_time = omega arith

  -- the machine is empty
  module _ (zeros row : List ℕ) (empty : Empty zeros) (kept : Grew (KeepsOne s0 c0) zeros row) where
    pub idle_front : Front m V s0 c0 (λ h. c0) row
    idle_front = record {
      reached = λ s t i.
          let one = kept_only (KeepsOne s0 c0) zeros row empty kept s t i.1 in
          subst (λ n. Reached m V s0 c0 (λ h. c0) n s) (sym one.1) (subst (Reached m V s0 c0 (λ h. c0) c0) (sym one.0) (λ g a. (g, a, refl, λ p S h. refl)));
      covers = λ f a. (
        record { state = s0; clock = c0; rest = f; allowed = a; begun = omega arith; passed = omega arith; base = above_wait m laws (c0 - c0) s0 s0 (above_refl m laws s0 small); same = λ p S h. refl },
        covered_from m row s0 c0 _ c0 (kept.covers s0 c0 (refl, refl)) (omega arith) (above_there),
      );
    }
      where
        above_there : Above m s0 (cleans m (c0 - c0) s0)
        above_there = subst⁻¹ (λ n. Above m s0 (cleans m n s0)) no_time (above_refl m laws s0 small)

    pub idle_path : Path m s0 c0 (λ h. c0) c0 s0
    idle_path = record { quiet = record { begun = omega arith; quiet = λ g b. refl }; time = refl; state = sym (ap (λ n. cleans m n s0) no_time) }

  -- a run that counts as begun at B, on the path without faults
  run_path : (p B n u : ℕ) → c0 ≤ B + p → n ≡ B + p → u ≡ cleans m (B + p - c0) s0 → Path m s0 c0 (completion V p B) n u
  run_path p B n u over time there = record { quiet = record { begun = over; quiet = λ g b. completion_before V p B g b }; time = time; state = there }

  now_here : Above m (cleans m (c0 - c0) s0) s0
  now_here = above_wait m laws (c0 - c0) s0 s0 (above_refl m laws s0 small)

  -- a run on the machine that was hit, and is given up at B
  module _ (p wait : ℕ) (zeros row finish : List ℕ) (empty : Empty zeros) (kept : Grew (KeepsOne (cleans m wait s0) (c0 + wait)) zeros row) (none : Empty finish) where
    abbrev B : ℕ
    B = c0 + wait

    pub hit_begun : (due : ℕ) → Begun m V s0 c0 (completion V p B) p due row finish
    hit_begun due = record {
      started = λ s t i.
          let one = kept_only (KeepsOne (cleans m wait s0) B) zeros row empty kept s t i.1 in
          subst (λ n. Started m V s0 c0 (completion V p B) p n s) (sym one.1) (subst (Started m V s0 c0 (completion V p B) p B) (sym one.0)
          (λ g a. (g, allowed_after_wait m s0 c0 wait B refl g a, refl, λ p' T h. refl)));
      ended = λ u n i. absurd (none_in finish none u n i.1);
      by = λ u n i. absurd (none_in finish none u n i.1);
      covers = λ f a. inr (record {
        start = B;
        ends = refl;
        lands = (
          record { state = s0; clock = c0; rest = f; allowed = a; begun = omega arith; passed = omega arith; base = now_here; same = λ p' S h. refl },
          covered_from m row (cleans m wait s0) B _ B (kept.covers (cleans m wait s0) B (refl, refl)) (omega arith)
              (subst (λ n. Above m (cleans m wait s0) (cleans m n s0)) waited (above_cleans m laws wait s0 s0 (above_refl m laws s0 small))),
        );
      });
    }
      where
        waited : wait ≡ B - c0
        waited = omega arith

    pub hit_path : (n u : ℕ) → n ≡ B + p → u ≡ cleans m p (cleans m wait s0) → Path m s0 c0 (completion V p B) n u
    hit_path n u time there = run_path p B n u (omega arith) time (there ∙ sym (cleans_split m (B + p - c0) wait p s0 (omega arith)))

  -- a run on the machine that was not hit, and began at B, with `gone` quarters gone
  module _ (p gone B : ℕ) (zeros row zeros' finish : List ℕ) (empty : Empty zeros) (hits : Grew (Hit m V p gone p s0 B) zeros row) (empty' : Empty zeros')
      (kept : Grew (KeepsOne (cleans m (p - gone) s0) (B + p)) zeros' finish) (began : B + gone ≡ c0) (over : gone < p) (by : B + p ≤ 4096) where
    left : p - gone ≡ B + p - c0
    left = omega arith

    open_started : (s t : ℕ) → Hit m V p gone p s0 B s t → Started m V s0 c0 (completion V p B) p t s
    open_started s t h =
        let x = h.before + 1 in
        let q = B + x in
        let lasts = lasts_within bounded p x (omega arith) (omega (arith, h.early)) in
        let S' = B + V p x in
        let permitted : m.spoiled (cleans m (q - c0 - 1) s0) ≡ Some h.spoiled = ap (λ n. m.spoiled (cleans m n s0)) (omega (arith, h.gone)) ∙ h.permitted in
        let wait : V p x - x ≡ S' - q = omega arith in
        let place : q - B ≡ x = omega arith in
        let from : Started m V s0 c0 (completion V p B) p S' (cleans m (V p x - x) h.spoiled) =
        λ g a. (
          q ∷ g,
          (h.spoiled, omega (arith, h.gone), omega (arith, h.early), permitted, allowed_after_wait m h.spoiled q (V p x - x) S' (omega arith) g a),
          completion_hit V p B q g (omega arith) (omega (arith, h.early)) ∙ ap (λ n. completion V p (B + V p n) g) place,
          same_skip V S' q g (omega arith),
        ) in
        subst (λ n. Started m V s0 c0 (completion V p B) p n s) (sym h.time) (subst (Started m V s0 c0 (completion V p B) p S') (sym h.state) from)

    clear_reached : Reached m V s0 c0 (completion V p B) (B + p) (cleans m (p - gone) s0)
    clear_reached g a = (g, allowed_after_wait m s0 c0 (p - gone) (B + p) (omega arith) g a, completion_before V p B g (allowed_beyond m _ (B + p) g a), λ p' T h. refl)

    clear_lands : (f : List ℕ) → Allowed m s0 c0 f → completion V p B f ≡ B + p → Lands m V s0 c0 finish (completion V p B f) f
    clear_lands f a is =
        subst (λ C. Lands m V s0 c0 finish C f) (sym is) (
          record { state = s0; clock = c0; rest = f; allowed = a; begun = omega arith; passed = omega arith; base = now_here; same = λ p' S h. refl },
          covered_from m finish (cleans m (p - gone) s0) (B + p) _ (B + p) (kept.covers (cleans m (p - gone) s0) (B + p) (refl, refl)) (omega arith)
              (subst (λ n. Above m (cleans m (p - gone) s0) (cleans m n s0)) left (above_cleans m laws (p - gone) s0 s0 (above_refl m laws s0 small))),
        )

    struck_begins : (q t : ℕ) (f : List ℕ) → c0 < q → q ≤ B + p → m.spoiled (cleans m (q - c0 - 1) s0) ≡ Some t → Allowed m t q f → Begins m V s0 c0 (completion V p B) p row (q ∷ f)
    struck_begins q t f after within permitted a =
        let x = q - B in
        let lasts = lasts_within bounded p x (omega arith) (omega arith) in
        let S' = B + V p x in
        let base = above_fault m laws s0 c0 q t small after permitted in
        let one : x ≡ x - 1 + 1 = omega arith in
        let found = hits.covers (cleans m (V p x - x) t) S' (record {
          before = x - 1;
          gone = omega arith;
          early = omega arith;
          spoiled = t;
          permitted = ap (λ n. m.spoiled (cleans m n s0)) (omega arith) ∙ permitted;
          state = ap (λ n. cleans m (V p n - n) t) one;
          time = ap (λ n. B + V p n) one;
        }) in
        let gap : V p x - x ≡ S' - q = omega arith in
        record {
          start = S';
          ends = completion_hit V p B q f (omega arith) within
              ∙ sym (same_skip V S' q f (omega arith) p S' (omega arith));
          lands = (
            record { state = t; clock = q; rest = f; allowed = a; begun = omega arith; passed = omega arith; base = base; same = same_skip V S' q f (omega arith) },
            covered_from m row (cleans m (V p x - x) t) S' _ S' found (omega arith)
                (subst (λ n. Above m (cleans m (V p x - x) t) (cleans m n t)) gap (above_cleans m laws (V p x - x) t t (above_refl m laws t base.1))),
          );
        }

    open_covers : (f : List ℕ) → Allowed m s0 c0 f → Lands m V s0 c0 finish (completion V p B f) f ⊎ Begins m V s0 c0 (completion V p B) p row f
    open_covers [] a = inl (clear_lands [] a refl)
    open_covers (q ∷ f) (t, after, last, permitted, a) =
        ⊎_elim (λ past. inl (clear_lands (q ∷ f) (t, after, last, permitted, a) (completion_past V p B q f past))) (λ within. inr (struck_begins q t f after within permitted a)) (cases_lt (B + p) q)

    pub open_begun : (due : ℕ) → B + p ≤ due → Begun m V s0 c0 (completion V p B) p due row finish
    open_begun due in_time = record {
      started = λ s t i. open_started s t (kept_only (Hit m V p gone p s0 B) zeros row empty hits s t i.1);
      ended = λ s t i.
          let one = kept_only (KeepsOne (cleans m (p - gone) s0) (B + p)) zeros' finish empty' kept s t i.1 in
          subst (λ n. Reached m V s0 c0 (completion V p B) n s) (sym one.1) (subst (Reached m V s0 c0 (completion V p B) (B + p)) (sym one.0) clear_reached);
      by = λ s t i. let one = kept_only (KeepsOne (cleans m (p - gone) s0) (B + p)) zeros' finish empty' kept s t i.1 in omega (arith, one.1);
      covers = open_covers;
    }

    pub open_path : (n u : ℕ) → n ≡ B + p → u ≡ cleans m (p - gone) s0 → Path m s0 c0 (completion V p B) n u
    open_path n u time there = run_path p B n u (omega arith) time (there ∙ ap (λ k. cleans m k s0) left)
