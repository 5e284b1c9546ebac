-- From the jobs that wait to all jobs of a board.
use borrow.Rule.Slice.PartMut.{put_mid}
use Rattle.std.proofs.Common.{◌≡◌, ℕ, zero, suc, ◌-◌, ◌<◌, ◌≤◌, List, [], ◌∷◌, ◌++◌, length, get_or, drop, set, Some, None, Ok, Err, Result, Option, refl, ap, ◌∙◌, append-nil, arith}
use mathlib.Core.Path.{subst⁻¹}
use Rattle.calls.specs.declared.call.Job.{Job}
use Rattle.calls.specs.declared.refusal.Refusal.{Refusal}
use Rattle.calls.specs.declared.refusal.Refusal.TheVariants.{Late}
use Rattle.inspections.specs.Verdict.{Verdict}
use Rattle.rules.specs.Model.{Model}
use Rattle.schedules.specs.Foreseen.{free, slots}
use Rattle.schedules.specs.Futures.{and_then}
use Rattle.schedules.specs.Runs.{finishes}
use Rattle.schedules.specs.World.{World, nobody}
use Rattle.schedules.specs.declared.run.Run.{Run}
use Rattle.std.proofs.lemmas.List.{drop_all}
use Rattle.search.specs.Fronts.{CanPass, Latest}
use Rattle.search.specs.Jobs.{slot}
use Rattle.search.specs.Sequences.{Judged, Judges, JudgesBoard, board_finish, finish_of}

-- the finish of a waiting job
pub finishes_at : (V : Verdict) (F : List ℕ → ℕ) (js : List Job) (k : ℕ) → k < length js → (h : List ℕ) → get_or (finishes V (F h) (slots js) h) k 0 ≡ finish_of V F js k h
finishes_at V F [] k within h = absurd (omega arith)
finishes_at V F (j ∷ js) zero within h = refl
finishes_at V F (j ∷ js) (suc k) within h = finishes_at V (and_then V F (slot j)) js k (omega arith) h

module _ (m : Model) (s0 c0 : ℕ) where
  latest_same : (F G : List ℕ → ℕ) (t : ℕ) → ((h : List ℕ) → G h ≡ F h) → Latest m s0 c0 F t → Latest m s0 c0 G t
  latest_same F G t same (reached, most) = ((reached.0, reached.1, same reached.0 ∙ reached.2), λ h a. omega (arith, same h, most h a))

  pass_same : (F G : List ℕ → ℕ) (due : ℕ) → ((h : List ℕ) → G h ≡ F h) → CanPass m s0 c0 F due → CanPass m s0 c0 G due
  pass_same F G due same (h, a, late) = (h, a, omega (arith, same h))

  module _ (F G : ℕ → List ℕ → ℕ) (js : List Job) (old new : List ℕ) (same : (k : ℕ) → k < length js → (h : List ℕ) → G k h ≡ F k h) where
    judged_same : (n : ℕ) → n ≤ length js → Judged m s0 c0 F js n old new → Judged m s0 c0 G js n old new
    judged_same n few judged = record { latest = λ k h. latest_same (F k) (G k) _ (same k (omega arith)) (judged.latest k h); on_time = judged.on_time; rest = judged.rest }

    -- the same finishes, in other words
    pub judges_same : (r : Result (Unit {0}) Refusal) → Judges m s0 c0 F js old new r → Judges m s0 c0 G js old new r
    judges_same (Ok u) judged = judged_same (length js) (omega arith) judged
    judges_same (Err e) (t, n, is, late) = (
      t,
      n,
      is,
      record {
        within = late.within;
        ticket = late.ticket;
        late = pass_same (F n) (G n) _ (same n late.within) late.late;
        before = judged_same n (omega (arith, late.within)) late.before;
      },
    )

  -- one job before the others: its latest finish is r, by its due quarter
  module _ (G : ℕ → List ℕ → ℕ) (j : Job) (js : List Job) (old new tail tail' : List ℕ) (r : ℕ) (first : Latest m s0 c0 (G 0) r) (by : r ≤ j.due)
      (head : get_or new 0 0 ≡ r) (after : (k : ℕ) → get_or new (suc k) 0 ≡ get_or tail' k 0) (before : (k : ℕ) → get_or tail k 0 ≡ get_or old (suc k) 0) where
    judged_behind : (n : ℕ) → Judged m s0 c0 (λ k. G (suc k)) js n tail tail' → Judged m s0 c0 G (j ∷ js) (suc n) old new
    judged_behind n judged = record { latest = latest; on_time = on_time; rest = rest }
      where
        latest : (k : ℕ) → k < suc n → Latest m s0 c0 (G k) (get_or new k 0)
        latest zero h = subst⁻¹ (Latest m s0 c0 (G 0)) head first
        latest (suc k) h = subst⁻¹ (Latest m s0 c0 (G (suc k))) (after k) (judged.latest k (omega arith))

        on_time : (k : ℕ) → k < suc n → get_or new k 0 ≤ (get_or (j ∷ js) k nobody).due
        on_time zero h = omega (arith, head)
        on_time (suc k) h = omega (arith, after k, judged.on_time k (omega arith))

        rest : (k : ℕ) → suc n ≤ k → get_or new k 0 ≡ get_or old k 0
        rest zero h = absurd (omega arith)
        rest (suc k) h = after k ∙ judged.rest k (omega arith) ∙ before k

    pub judges_behind : (o : Result (Unit {0}) Refusal) → Judges m s0 c0 (λ k. G (suc k)) js tail tail' o → Judges m s0 c0 G (j ∷ js) old new o
    judges_behind (Ok u) judged = judged_behind (length js) judged
    judges_behind (Err e) (t, n, is, late) = (
      t,
      suc n,
      is,
      record { within = omega (arith, late.within); ticket = late.ticket; late = late.late; before = judged_behind n late.before },
    )

  -- the first job can be late
  pub judges_first : (G : ℕ → List ℕ → ℕ) (j : Job) (js : List Job) (old : List ℕ) → CanPass m s0 c0 (G 0) j.due → Judges m s0 c0 G (j ∷ js) old old (Err (Late j.ticket))
  judges_first G j js old late = (
    j.ticket,
    0,
    refl,
    record {
      within = omega arith;
      ticket = refl;
      late = late;
      before = record { latest = λ k h. absurd (omega arith); on_time = λ k h. absurd (omega arith); rest = λ k h. refl };
    },
  )

-- the machine's run by another name
pub judges_machine : (m : Model) (V : Verdict) (clock state : ℕ) (machine : Option Run) (run : Run) (waiting : List Job) (old new : List ℕ) (o : Result (Unit {0}) Refusal) → machine ≡ Some run →
    JudgesBoard m V (record { clock = clock; state = state; machine = Some run; waiting = waiting }) old new o →
    JudgesBoard m V (record { clock = clock; state = state; machine = machine; waiting = waiting }) old new o
judges_machine m V clock state machine run waiting old new o is judged =
    subst⁻¹ (λ x. JudgesBoard m V (record { clock = clock; state = state; machine = x; waiting = waiting }) old new o) is judged

-- what stands in a list of which the part behind the first place was written
put_behind : (x n : ℕ) (xs ys : List ℕ) → n ≡ length xs → put_mid 1 n (x ∷ xs) ys ≡ x ∷ ys
put_behind x n xs ys all = ap (λ l. x ∷ l) (ap (λ l. ys ++ l) (drop_all n xs (omega arith)) ∙ append-nil ys)

-- the run on the machine, whose latest finish is r, and what was judged of the jobs behind it
pub judges_run : (m : Model) (V : Verdict) (clock state : ℕ) (run : Run) (waiting : List Job) (old tail ys : List ℕ) (r : ℕ) (o : Result (Unit {0}) Refusal) → 0 < length old → tail ≡ drop 1 (set old 0 r) →
    Latest m state clock (free V clock (Some run)) r → r ≤ run.job.due → Judges m state clock (finish_of V (free V clock (Some run)) waiting) waiting tail ys o →
    JudgesBoard m V (record { clock = clock; state = state; machine = Some run; waiting = waiting }) old (put_mid 1 (length (set old 0 r) - 1) (set old 0 r) ys) o
judges_run m V clock state run waiting [] tail ys r o room is latest by judged = absurd (omega arith)
judges_run m V clock state run waiting (x ∷ old) tail ys r o room is latest by judged =
    subst⁻¹ (λ new. JudgesBoard m V w (x ∷ old) new o) (put_behind r _ old ys (omega arith))
    (judges_behind m state clock (board_finish V w) run.job waiting (x ∷ old) (r ∷ ys) tail ys r latest by refl (λ k. refl) (λ k. ap (λ l. get_or l k 0) is)
    o (judges_same m state clock (finish_of V (free V clock (Some run)) waiting) (λ k. board_finish V w (suc k)) waiting tail ys (finishes_at V (free V clock (Some run)) waiting) o judged))
  where
    w : World
    w = record { clock = clock; state = state; machine = Some run; waiting = waiting }

-- nothing is on the machine
pub judges_idle : (m : Model) (V : Verdict) (clock state : ℕ) (machine : Option Run) (waiting : List Job) (old new : List ℕ) (o : Result (Unit {0}) Refusal) → machine ≡ None →
    Judges m state clock (finish_of V (λ h. clock) waiting) waiting old new o → JudgesBoard m V (record { clock = clock; state = state; machine = machine; waiting = waiting }) old new o
judges_idle m V clock state machine waiting old new o is judged =
    subst⁻¹ (λ x. JudgesBoard m V (record { clock = clock; state = state; machine = x; waiting = waiting }) old new o) is
    (judges_same m state clock (finish_of V (λ h. clock) waiting) (board_finish V (record { clock = clock; state = state; machine = None; waiting = waiting })) waiting old new (finishes_at V (λ h. clock) waiting) o judged)
