-- What was judged of a board by its runs holds of it quarter by quarter.
use Rattle.std.proofs.Common.{◌≡◌, ℕ, zero, suc, ◌<◌, ◌≤◌, List, [], ◌∷◌, length, get_or, Ok, Err, Result, refl, ap, sym, subst, inl, inr, arith}
use Rattle.calls.specs.declared.refusal.Refusal.{Refusal}
use Rattle.inspections.specs.Verdict.{Bounded, Verdict}
use Rattle.rules.specs.Faults.{Allowed}
use Rattle.rules.specs.Model.{Model}
use Rattle.schedules.proofs.Bridge.{bridge}
use Rattle.schedules.proofs.Lists.{pairs_at}
use Rattle.schedules.proofs.Planned.{allowed_increasing, least_unique}
use Rattle.schedules.specs.Foreseen.{foreseen}
use Rattle.schedules.specs.Lists.{Any, First}
use Rattle.schedules.specs.Plans.{CanBeLate, WorstFinish}
use Rattle.schedules.specs.Ready.{Ready}
use Rattle.schedules.specs.Walk.{Finish, Gives}
use Rattle.schedules.specs.World.{Distinct, World, board, nobody}
use Rattle.search.specs.Answers.{AllKept, Found, Kept, LateFrom}
use Rattle.search.specs.Fit.{Fit}
use Rattle.search.specs.Fronts.{CanPass, Latest}
use Rattle.search.specs.Jobs.{Searchable}
use Rattle.search.specs.Sequences.{Judged, JudgesBoard, LateAt, board_finish}
use Rattle.std.proofs.ByRecursion.{All-weaker}

-- the first element of which P holds, by its place
first_at : {A : Type 0} (P Q : A → Type 0) (d : A) (xs : List A) (n : ℕ) → n < length xs → P (get_or xs n d) → Q (get_or xs n d) → ((k : ℕ) → k < n → P (get_or xs k d) → ⊥) → First P Q xs
first_at P Q d [] n within p q never = absurd (omega arith)
first_at P Q d (x ∷ xs) zero within p q never = inl (p, q)
first_at P Q d (x ∷ xs) (suc n) within p q never = inr (never 0 (omega arith), first_at P Q d xs n (omega arith) p q (λ k h. never (suc k) (omega arith)))

none_any : {A : Type 0} (P : A → Type 0) (d : A) (xs : List A) → ((k : ℕ) → k < length xs → P (get_or xs k d) → ⊥) → Any P xs → ⊥
none_any P d [] never any = any
none_any P d (x ∷ xs) never (inl p) = never 0 (omega arith) p
none_any P d (x ∷ xs) never (inr any) = none_any P d xs (λ k h. never (suc k) (omega arith)) any

module _ (m : Model) (V : Verdict) (bounded : Bounded V) (w : World) (fit : Fit m w) (distinct : Distinct (board w)) where
  ready : Ready w
  ready = record { run = fit.run; long = All-weaker Searchable (λ j. 1 ≤ j.length) (λ j h. h.1) (board w) fit.jobs; distinct = distinct }

  abbrev ticket_at : ℕ → ℕ
  ticket_at k = (get_or (board w) k nobody).ticket

  finish-is : (k : ℕ) → k < length (board w) → (f : List ℕ) → Allowed m w.state w.clock f → Finish V f w (ticket_at k) (board_finish V w k f)
  finish-is k within f a =
      pairs_at (λ j q. Finish V f w j.ticket q) (board w) (foreseen V w.clock w.machine w.waiting f) k nobody 0 within
      (bridge V bounded w ready f (allowed_increasing m w.state w.clock f a))

  only_finish : (k : ℕ) → k < length (board w) → (f : List ℕ) → Allowed m w.state w.clock f → (q : ℕ) → Finish V f w (ticket_at k) q → q ≡ board_finish V w k f
  only_finish k within f a q ends = least_unique (Gives V f w.clock w.machine w.waiting (ticket_at k)) q (board_finish V w k f) ends (finish-is k within f a)

  worst_from : (k c : ℕ) → k < length (board w) → Latest m w.state w.clock (board_finish V w k) c → WorstFinish m V w (ticket_at k) c
  worst_from k c within ((h, a, is), most) =
      ((h, a, subst (Finish V h w (ticket_at k)) is (finish-is k within h a)), λ f q b ends. omega (arith, only_finish k within f b q ends, most f b))

  late_from : (k : ℕ) → k < length (board w) → CanPass m w.state w.clock (board_finish V w k) (get_or (board w) k nobody).due → CanBeLate m V w (get_or (board w) k nobody)
  late_from k within (h, a, late) = (h, a, (board_finish V w k h, finish-is k within h a, late))

  never_late : (k c : ℕ) → k < length (board w) → Latest m w.state w.clock (board_finish V w k) c → c ≤ (get_or (board w) k nobody).due → CanBeLate m V w (get_or (board w) k nobody) → ⊥
  never_late k c within latest by (f, a, (q, ends, late)) = omega (arith, only_finish k within f a q ends, latest.1 f a)

  kept_from : (n : ℕ) (old new : List ℕ) → n ≤ length (board w) → Judged m w.state w.clock (board_finish V w) (board w) n old new → Kept m V w n old new
  kept_from n old new few judged = record {
    worst = λ k h. worst_from k (get_or new k 0) (omega arith) (judged.latest k h);
    on_time = λ k h. never_late k (get_or new k 0) (omega arith) (judged.latest k h) (judged.on_time k h);
    rest = judged.rest;
  }

  pub all_kept : (old new : List ℕ) → Judged m w.state w.clock (board_finish V w) (board w) (length (board w)) old new → AllKept m V w old new
  all_kept old new judged =
      let kept = kept_from (length (board w)) old new (omega arith) judged in (none_any (CanBeLate m V w) nobody (board w) kept.on_time, kept)

  pub late_found : (t n : ℕ) (old new : List ℕ) → LateAt m w.state w.clock (board_finish V w) (board w) old new t n → LateFrom m V w t old new
  late_found t n old new late =
      let kept = kept_from n old new (omega (arith, late.within)) late.before in (
        first_at (CanBeLate m V w) (λ j. j.ticket ≡ t) nobody (board w) n late.within (late_from n late.within late.late) (sym late.ticket) kept.on_time,
        (n, late.within, sym late.ticket, kept),
      )

  -- what was judged of the board is what is found
  pub found : (old new : List ℕ) (r : Result (Unit {0}) Refusal) → JudgesBoard m V w old new r → Found m V w old new r
  found old new (Ok u) judged = inl (refl, all_kept old new judged)
  found old new (Err e) (t, n, is, late) = inr (t, ap Err is, late_found t n old new late)
