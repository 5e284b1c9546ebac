-- The plan argument with a run on the machine: it takes the same faults in both worlds until the machine is free.
use Rattle.std.proofs.Common.{ℕ, suc, ◌+◌, ◌-◌, ◌<◌, ◌≤◌, ◌⊎◌, List, [], ◌∷◌, length, get_or, take, Some, None, Option, refl, inl, inr, arith}
use mathlib.Core.Path.{subst⁻¹}
use Rattle.std.proofs.lemmas.Bool.{cases_lt}
use Rattle.rules.specs.Model.{Model, Laws, cleans}
use Rattle.rules.specs.Faults.{Allowed}
use Rattle.inspections.specs.Verdict.{Verdict, Bounded}
use Rattle.schedules.specs.Runs.{completion, finishes, Slot}
use Rattle.schedules.proofs.States.{lasts_within, allowed_beyond, allowed_after_wait, above_refl, above_cleans, above_wait, above_fault}
use Rattle.schedules.proofs.Completion.{completion_hit, completion_before, completion_grows, finish, finishes_at, finish_grows, same_skip}
use Rattle.schedules.proofs.Lockstep.{Outcome, outcome_same, run}
use Rattle.schedules.proofs.Following.{Outlasts, follow}
use Rattle.schedules.specs.Futures.{Above, Beyond, Quiet}
use Rattle.schedules.specs.declared.run.Run.{Run}
use Rattle.schedules.specs.World.{HitRight, RunRight}
use Rattle.schedules.specs.Foreseen.{begun_at, free}

module _ (m : Model) (laws : Laws m) (V : Verdict) (bounded : Bounded V) (s c : ℕ) (small : s < m.size) where
  here : Above m (cleans m (c - c) s) s
  here = above_wait m laws (c - c) s s (above_refl m laws s small)

  -- a run of length p that counts as begun at S: with no fault it is finished after the clock
  quiet_run : (p S : ℕ) → c ≤ S + p → Quiet (completion V p S) c
  quiet_run p S h = record { begun = h; quiet = λ g b. completion_before V p S g b }

  -- the run meets no fault more
  clear_run : (p S : ℕ) (f : List ℕ) → c ≤ S + p → Allowed m s c f → Beyond (S + p) f → Outcome m V s c (completion V p S) (completion V p S f) f
  clear_run p S f h a b =
      subst⁻¹ (λ C. Outcome m V s c (completion V p S) C f) (completion_before V p S f b) (inl (record {
        earlier = record { state = s; clock = c; rest = f; allowed = a; begun = omega arith; passed = h; base = here; same = λ p' T k. refl };
        at = S + p;
        state = cleans m (S + p - c) s;
        reached = λ g b'.
            (g, allowed_after_wait m s c (S + p - c) (S + p) (omega arith) g b', completion_before V p S g (allowed_beyond m _ (S + p) g b'), λ p' T k. refl);
        later = omega arith;
        freer = above_cleans m laws (S + p - c) s s (above_refl m laws s small);
      }))

  -- a run that begins at the clock or later
  later_run : (p S : ℕ) (f : List ℕ) → c ≤ S → Allowed m s c f → Outcome m V s c (completion V p S) (completion V p S f) f
  later_run p S f h a =
      run m laws V bounded s c f (completion V p S) p s c S (cleans m (S - c) s) S a (omega arith) h (omega arith) here
      (above_cleans m laws (S - c) s s (above_refl m laws s small))
      (λ g b. (g, allowed_after_wait m s c (S - c) S (omega arith) g b, refl, λ p' T k. refl))

  -- a run that began before, and is not hit yet
  open_run : (p S : ℕ) (f : List ℕ) → S ≤ c → c ≤ S + p → Allowed m s c f → Outcome m V s c (completion V p S) (completion V p S f) f
  open_run p S [] before over a = clear_run p S [] over a tt
  open_run p S (q ∷ f) before over (t, late, by, permitted, a) =
      elim (cases_lt (S + p) q) [
        | inl k ↦ clear_run p S (q ∷ f) over (t, late, by, permitted, a) k
        | inr k ↦
            let x = q - S in
            let lasts = lasts_within bounded p x (omega arith) (omega arith) in
            let S' = S + V p x in
            let base = above_fault m laws s c q t small late permitted in
            let next = run m laws V bounded s c f (completion V p S) p t q S' (cleans m (S' - q) t) S' a (omega arith) (omega arith) (omega arith) base
            (above_cleans m laws (S' - q) t t (above_refl m laws t base.1))
            (λ g b. (q ∷ g, (t, late, by, permitted, allowed_after_wait m t q (S' - q) S' (omega arith) g b), completion_hit V p S q g (omega arith) k, same_skip V S' q g (omega arith))) in
            subst⁻¹ (λ C. Outcome m V s c (completion V p S) C (q ∷ f)) (completion_hit V p S q f (omega arith) k)
            (outcome_same m laws V bounded s c (completion V p S) (completion V p S' f) (q ∷ f) f
            (same_skip V (completion V p S' f) q f (omega (arith, completion_grows V bounded p S' f))) next)
      ]

  quiet_free : (machine : Option Run) → RunRight c machine → Quiet (free V c machine) c
  quiet_free None right = record { begun = omega arith; quiet = λ g b. refl }
  quiet_free (Some r) right = by_hit r.hit right.2
    where
      by_hit : (hit : Option ℕ) → HitRight r.job.length r.gone hit → Quiet (completion V r.job.length (begun_at c r.gone hit)) c
      by_hit None h = quiet_run r.job.length (c - r.gone) (omega (arith, right.0, right.1))
      by_hit (Some n) h = quiet_run r.job.length (c + (n - r.gone)) (omega arith)

  outcome_free : (machine : Option Run) → RunRight c machine → (f : List ℕ) → Allowed m s c f → Outcome m V s c (free V c machine) (free V c machine f) f
  outcome_free None right f a = inl (record {
    earlier = record { state = s; clock = c; rest = f; allowed = a; begun = omega arith; passed = omega arith; base = here; same = λ p T k. refl };
    at = c;
    state = cleans m (c - c) s;
    reached = λ g b. (g, allowed_after_wait m s c (c - c) c (omega arith) g b, refl, λ p T k. refl);
    later = omega arith;
    freer = above_cleans m laws (c - c) s s (above_refl m laws s small);
  })
  outcome_free (Some r) right f a = by_hit r.hit right.2
    where
      by_hit : (hit : Option ℕ) → HitRight r.job.length r.gone hit →
          Outcome m V s c (completion V r.job.length (begun_at c r.gone hit)) (completion V r.job.length (begun_at c r.gone hit) f) f
      by_hit None h = open_run r.job.length (c - r.gone) f (omega arith) (omega (arith, right.0, right.1)) a
      by_hit (Some n) h = later_run r.job.length (c + (n - r.gone)) f (omega arith) a

  module _ (machine : Option Run) (right : RunRight c machine) where
    -- the last jobs of two schedules behind the run
    busy : {js ks : List Slot} → Outlasts js ks → (f : List ℕ) → Allowed m s c f →
        (h : List ℕ) × Allowed m s c h
        × ((finish V (free V c machine f) js f ≤ finish V (free V c machine h) ks h) ⊎ (4096 < finish V (free V c machine h) ks h))
    busy {js} {ks} o f a =
        elim (outcome_free machine right f a) [
          | inl step ↦ follow m laws V bounded s c small o (free V c machine) (quiet_free machine right) (free V c machine f) f step
          | inr past ↦ (past.0, past.1, inr (omega (arith, past.2, finish_grows V bounded (free V c machine past.0) ks past.0)))
        ]

    -- job b of one schedule against job d of another
    pub busy_at : (js ks : List Slot) (b d : ℕ) → b < length js → d < length ks → Outlasts (take (suc b) js) (take (suc d) ks) → (f : List ℕ) → Allowed m s c f →
        (h : List ℕ) × Allowed m s c h
        × ((get_or (finishes V (free V c machine f) js f) b 0 ≤ get_or (finishes V (free V c machine h) ks h) d 0)
        ⊎ (4096 < get_or (finishes V (free V c machine h) ks h) d 0))
    busy_at js ks b d within within' o f a =
        let found = busy o f a in
        (found.0, found.1, rw (finishes_at V (free V c machine f) js f b within, finishes_at V (free V c machine found.0) ks found.0 d within') found.2)
