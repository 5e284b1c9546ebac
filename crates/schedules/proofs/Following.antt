-- The plan argument over whole schedules, by recursion on the jobs.
use Rattle.std.proofs.Common.{◌≡◌, ℕ, ◌+◌, ◌-◌, ◌<◌, ◌≤◌, max, ◌⊎◌, List, [], ◌∷◌, sym, refl, ap, ◌∙◌, inl, inr, arith}
use Rattle.std.proofs.lemmas.Bool.{cases_lt}
use Rattle.rules.specs.Model.{Model, Laws, cleans}
use Rattle.rules.specs.Faults.{Allowed}
use Rattle.inspections.specs.Verdict.{Verdict, Bounded}
use Rattle.schedules.specs.Futures.{Above, Earlier, Quiet, Reached, Started, and_then}
use Rattle.schedules.specs.Runs.{completion, Slot}
use Rattle.schedules.proofs.States.{beyond_sooner, cleans_split, allowed_beyond, allowed_after_wait, above_cleans, above_wait}
use Rattle.schedules.proofs.Completion.{completion_before, completion_grows, finish, finish_grows}
use Rattle.schedules.proofs.Lockstep.{Past, Step, Outcome, outcome_same, run}

-- the later schedule has the jobs of the earlier one, none started earlier, and perhaps others among them
pub data Outlasts : List Slot → List Slot → Type 0 where
  none : Outlasts [] []
  kept : {j k : Slot} {js ks : List Slot} → j.start ≤ k.start → j.run ≡ k.run → Outlasts js ks → Outlasts (j ∷ js) (k ∷ ks)
  added : {k : Slot} {js ks : List Slot} → Outlasts js ks → Outlasts js (k ∷ ks)

module _ (m : Model) (laws : Laws m) (V : Verdict) (bounded : Bounded V) (s0 c0 : ℕ) (small : s0 < m.size) where
  pub quiet_then : (F : List ℕ → ℕ) (k : Slot) → Quiet F c0 → Quiet (and_then V F k) c0
  quiet_then F k q = record {
    begun = omega (arith, q.begun);
    quiet = λ g b.
        let same = q.quiet g (beyond_sooner (F []) (max k.start (F []) + k.run) (omega arith) g b) in
        ap (λ n. completion V k.run (max k.start n) g) same ∙ completion_before V k.run (max k.start (F [])) g b;
  }

  -- the next job's run is begun, after clean quarters from where the jobs so far are finished
  pub begin : (F : List ℕ → ℕ) (k : Slot) (C s : ℕ) → Reached m V s0 c0 F C s →
      Started m V s0 c0 (and_then V F k) k.run (max k.start C) (cleans m (max k.start C - C) s)
  begin F k C s reached g a =
      let from = reached g (allowed_after_wait m s C (max k.start C - C) (max k.start C) (omega arith) g a) in (
        from.0,
        from.1,
        ap (λ n. completion V k.run (max k.start n) from.0) from.2 ∙ from.3 k.run (max k.start C) (omega arith),
        λ p S h. from.3 p S (omega arith),
      )

  -- a clean walk from the very beginning
  pub reached_clean : (F : List ℕ → ℕ) → Quiet F c0 → Reached m V s0 c0 F (F []) (cleans m (F [] - c0) s0)
  reached_clean F q g a = (
    g,
    allowed_after_wait m s0 c0 (F [] - c0) (F []) (omega (arith, q.begun)) g a,
    q.quiet g (allowed_beyond m _ (F []) g a),
    λ p S h. refl,
  )

  -- a job that only the later schedule has
  extra : (F : List ℕ → ℕ) (k : Slot) (C s : ℕ) → Reached m V s0 c0 F C s →
      Reached m V s0 c0 (and_then V F k) (max k.start C + k.run) (cleans m k.run (cleans m (max k.start C - C) s))
  extra F k C s reached g a =
      let S = max k.start C in
      let from = begin F k C s reached g (allowed_after_wait m _ S k.run (S + k.run) (omega arith) g a) in
      (from.0, from.1, from.2 ∙ completion_before V k.run S g (allowed_beyond m _ (S + k.run) g a), λ p T h. from.3 p T (omega arith))

  abbrev Answer : (List ℕ → ℕ) → List Slot → ℕ → Type 0
  Answer F ks C = (h : List ℕ) × Allowed m s0 c0 h × ((C ≤ finish V (F h) ks h) ⊎ (4096 < finish V (F h) ks h))

  past_answer : (F : List ℕ → ℕ) (ks : List Slot) (C : ℕ) → Past m s0 c0 F → Answer F ks C
  past_answer F ks C past = (past.0, past.1, inr (omega (arith, past.2, finish_grows V bounded (F past.0) ks past.0)))

  -- one job of both schedules, begun in the later world after clean quarters
  run_both : (F : List ℕ → ℕ) (k : Slot) (S T C s : ℕ) (f : List ℕ) (e : Earlier m V s0 c0 T f) → T ≤ S → S ≤ max k.start C → Reached m V s0 c0 F C s →
      Above m (cleans m (max k.start C - C) s) (cleans m (S - e.clock) e.state) → Outcome m V s0 c0 (and_then V F k) (completion V k.run S f) f
  run_both F k S T C s f e waits late reached freer =
      let found = run m laws V bounded s0 c0 e.rest (and_then V F k) k.run e.state e.clock S _ (max k.start C)
      e.allowed e.begun (omega (arith, e.passed)) late e.base freer (begin F k C s reached) in
      let grows = completion_grows V bounded k.run S e.rest in
      rw (e.same k.run S waits) (outcome_same m laws V bounded s0 c0 _ _ f e.rest (λ p U h. e.same p U (omega arith)) found)

  job : (F : List ℕ → ℕ) (j k : Slot) (T : ℕ) (f : List ℕ) → Quiet F c0 → j.start ≤ k.start → Step m V s0 c0 F T f →
      Outcome m V s0 c0 (and_then V F k) (completion V k.run (max j.start T) f) f
  job F j k T f q starts step =
      let e = step.earlier in
      let S = max j.start T in
      elim (cases_lt T j.start) [
        -- the earlier world's job is begun as soon as the machine is free: the later world has kept step
        | inr soon ↦
            let same : S - e.clock ≡ T - e.clock = omega arith in
            run_both F k S T step.at step.state f e (omega arith) (omega (arith, step.later)) step.reached
            (rw same (above_wait m laws _ _ _ step.freer))
        -- it is begun at its own start: the later world begins anew, with no fault before this job
        | inl own ↦
            let D = F [] in
            let S' = max k.start D in
            let walked : cleans m (S' - D) (cleans m (D - c0) s0) ≡ cleans m (S' - S) (cleans m (S - e.clock) (cleans m (e.clock - c0) s0)) =
            sym (cleans_split m (S' - c0) (D - c0) (S' - D) s0 (omega (arith, q.begun)))
            ∙ cleans_split m (S' - c0) (S - c0) (S' - S) s0 (omega (arith, e.begun, e.passed))
            ∙ ap (cleans m (S' - S)) (cleans_split m (S - c0) (e.clock - c0) (S - e.clock) s0 (omega (arith, e.begun, e.passed))) in
            run_both F k S T D _ f e (omega arith) (omega arith) (reached_clean F q)
            (rw walked (above_wait m laws _ _ _ (above_cleans m laws (S - e.clock) _ _ e.base)))
      ]

  pub follow : {js ks : List Slot} → Outlasts js ks → (F : List ℕ → ℕ) → Quiet F c0 → (T : ℕ) (f : List ℕ) → Step m V s0 c0 F T f → Answer F ks (finish V T js f)
  follow none F q T f step =
      let from = step.reached [] tt in
      (from.0, from.1, inl (omega (arith, from.2, step.later)))
  follow (added {k = k} {ks = ks} o) F q T f step =
      follow o (and_then V F k) (quiet_then F k q) T f (record {
        earlier = step.earlier;
        at = max k.start step.at + k.run;
        state = cleans m k.run (cleans m (max k.start step.at - step.at) step.state);
        reached = extra F k step.at step.state step.reached;
        later = omega (arith, step.later);
        freer = above_wait m laws k.run _ _ (above_wait m laws _ _ _ step.freer);
      })
  follow (kept {j = j} {k = k} {js = js} {ks = ks} starts runs o) F q T f step =
      let C = completion V k.run (max j.start T) f in
      let go : Outcome m V s0 c0 (and_then V F k) C f → Answer F (k ∷ ks) (finish V C js f) =
      elim [ inl next ↦ follow o (and_then V F k) (quiet_then F k q) C f next | inr past ↦ past_answer (and_then V F k) ks _ past ] in
      rw runs (go (job F j k T f q starts step))
