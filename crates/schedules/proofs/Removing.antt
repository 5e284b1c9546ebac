-- The board without one of the waiting jobs.
use Rattle.std.proofs.Common.{◌≡◌, ℕ, zero, suc, ◌<◌, ◌≤◌, eqb, ◌⊎◌, List, [], ◌∷◌, ◌++◌, length, get_or, take, Some, None, Option, sym, refl, ap, subst, inl, inr, arith}
use Rattle.std.specs.List.{AllByRecursion}
use Rattle.std.proofs.ByRecursion.{All-from_get_or}
use Rattle.std.proofs.lemmas.Bool.{cond_both}
use Rattle.rules.specs.Model.{Model, Laws}
use Rattle.rules.specs.Faults.{Allowed}
use Rattle.inspections.specs.Verdict.{Verdict, Bounded}
use Rattle.schedules.specs.Runs.{Slot}
use Rattle.schedules.proofs.Following.{Outlasts, none, kept, added}
use Rattle.calls.specs.declared.call.Job.{Job}
use Rattle.schedules.specs.declared.run.Run.{Run}
use Rattle.schedules.specs.World.{World, nobody, on_machine, board, Distinct, WithinLimits, RunRight, with_waiting, without}
use Rattle.schedules.specs.Walk.{Finish, Gives}
use Rattle.rules.specs.Faults.{Increasing}
use Rattle.schedules.specs.Theorems.{Removed, Removing}
use Rattle.schedules.specs.Ready.{Right}
use Rattle.schedules.specs.Foreseen.{slots, foreseen}
use Rattle.schedules.proofs.Lists.{pairs_at}
use Rattle.schedules.proofs.Bridge.{bridge}
use Rattle.schedules.proofs.Busy.{busy_at}
use Rattle.schedules.proofs.Planned.{allowed_increasing, least_unique, right_ready}
use Rattle.schedules.proofs.Decides.{length_slots}
use Rattle.schedules.proofs.Times.{times_of}

pub without_all : (P : Job → Type 0) (t : ℕ) (ws : List Job) → AllByRecursion P ws → AllByRecursion P (without t ws)
without_all P t [] a = tt
without_all P t (j ∷ ws) a = cond_both (eqb j.ticket t) ws (j ∷ without t ws) (AllByRecursion P) (λ e. a.1) (λ e. (a.0, without_all P t ws a.1))

without_distinct : (t : ℕ) (ws : List Job) → Distinct ws → Distinct (without t ws)
without_distinct t [] d = tt
without_distinct t (j ∷ ws) d =
    cond_both (eqb j.ticket t) ws (j ∷ without t ws) Distinct (λ e. d.1)
    (λ e. (without_all (λ k. j.ticket ≡ k.ticket → ⊥) t ws d.0, without_distinct t ws d.1))

without_length : (t : ℕ) (ws : List Job) → length (without t ws) ≤ length ws
without_length t [] = omega arith
without_length t (j ∷ ws) =
    cond_both (eqb j.ticket t) ws (j ∷ without t ws) (λ l. length l ≤ suc (length ws)) (λ e. omega arith) (λ e. let h = without_length t ws in omega arith)

-- the board without it
pub withdrawn_all : (P : Job → Type 0) (machine : Option Run) (t : ℕ) (ws : List Job) → AllByRecursion P (on_machine machine ++ ws) → AllByRecursion P (on_machine machine ++ without t ws)
withdrawn_all P None t ws a = without_all P t ws a
withdrawn_all P (Some r) t ws a = (a.0, without_all P t ws a.1)

withdrawn_distinct : (machine : Option Run) (t : ℕ) (ws : List Job) → Distinct (on_machine machine ++ ws) → Distinct (on_machine machine ++ without t ws)
withdrawn_distinct None t ws d = without_distinct t ws d
withdrawn_distinct (Some r) t ws d = (without_all (λ k. r.job.ticket ≡ k.ticket → ⊥) t ws d.0, without_distinct t ws d.1)

pub withdrawn_length : (machine : Option Run) (t : ℕ) (ws : List Job) → length (on_machine machine ++ without t ws) ≤ length (on_machine machine ++ ws)
withdrawn_length None t ws = without_length t ws
withdrawn_length (Some r) t ws = let h = without_length t ws in omega arith

pub withdrawn_right : (w : World) (t : ℕ) → Right w → Right (with_waiting w (without t w.waiting))
withdrawn_right w t right = record {
  run = right.run;
  limits = withdrawn_all WithinLimits w.machine t w.waiting right.limits;
  distinct = withdrawn_distinct w.machine t w.waiting right.distinct;
}

itself : (js : List Slot) → Outlasts js js
itself [] = none
itself (j ∷ js) = kept (omega arith) refl (itself js)

-- job b of the shorter list is job d of the longer one, and the longer one's front outlasts the other's
pub record Place (ls ws : List Job) (b : ℕ) : Type 0 where
  pub place : ℕ
  pub within : place < length ws
  pub same : get_or ls b nobody ≡ get_or ws place nobody
  pub outlasts : Outlasts (take (suc b) (slots ls)) (take (suc place) (slots ws))

abbrev Placed : List Job → List Job → Type 0
Placed ws ls = (b : ℕ) → b < length ls → Place ls ws b

placed_next : (j : Job) (ls ws : List Job) → Placed ws ls → Placed (j ∷ ws) (j ∷ ls)
placed_next j ls ws p zero h = record { place = 0; within = omega arith; same = refl; outlasts = kept (omega arith) refl none }
placed_next j ls ws p (suc b) h =
    let q = p b (omega arith) in
    let in_ws = q.within in
    record { place = suc q.place; within = omega arith; same = q.same; outlasts = kept (omega arith) refl q.outlasts }

pub without_placed : (t : ℕ) (ws : List Job) → Placed ws (without t ws)
without_placed t [] = λ b h. absurd (omega arith)
without_placed t (j ∷ ws) =
    cond_both (eqb j.ticket t) ws (j ∷ without t ws) (Placed (j ∷ ws))
    (λ e b h. record { place = suc b; within = omega arith; same = refl; outlasts = added (itself (take (suc b) (slots ws))) })
    (λ e. placed_next j (without t ws) ws (without_placed t ws))

abbrev after : World → ℕ → World
after w t = with_waiting w (without t w.waiting)

module _ (m : Model) (laws : Laws m) (V : Verdict) (bounded : Bounded V) (w : World) (t : ℕ) (small : w.state < m.size) where
  -- job i of the board without the ticket's is job d of the board with it, and is foreseen no later
  pub record NoLater (machine : Option Run) (f : List ℕ) (i : ℕ) : Type 0 where
    pub place : ℕ
    pub within : place < length (on_machine machine ++ w.waiting)
    pub same : get_or (on_machine machine ++ without t w.waiting) i nobody ≡ get_or (on_machine machine ++ w.waiting) place nobody
    pub faults : List ℕ
    pub allowed : Allowed m w.state w.clock faults
    pub later : (get_or (foreseen V w.clock machine (without t w.waiting) f) i 0 ≤ get_or (foreseen V w.clock machine w.waiting faults) place 0)
        ⊎ (4096 < get_or (foreseen V w.clock machine w.waiting faults) place 0)

  no_later : (machine : Option Run) → RunRight w.clock machine → (f : List ℕ) → Allowed m w.state w.clock f → (i : ℕ) →
      i < length (on_machine machine ++ without t w.waiting) → NoLater machine f i
  no_later None right f a i h =
      let ls = without t w.waiting in
      let ws = w.waiting in
      let p = without_placed t ws i h in
      let found = busy_at m laws V bounded w.state w.clock small None right (slots ls) (slots ws) i p.place
      (rw (length_slots ls) h) (rw (length_slots ws) p.within) p.outlasts f a in
      record { place = p.place; within = p.within; same = p.same; faults = found.0; allowed = found.1; later = found.2 }
  no_later (Some r) right f a zero h =
      record { place = 0; within = omega arith; same = refl; faults = f; allowed = a; later = inl (omega arith) }
  no_later (Some r) right f a (suc b) h =
      let ls = without t w.waiting in
      let ws = w.waiting in
      let inside : b < length ls = omega arith in
      let p = without_placed t ws b inside in
      let there = p.within in
      let found = busy_at m laws V bounded w.state w.clock small (Some r) right (slots ls) (slots ws) b p.place
      (rw (length_slots ls) inside) (rw (length_slots ws) p.within) p.outlasts f a in
      record { place = suc p.place; within = omega arith; same = p.same; faults = found.0; allowed = found.1; later = found.2 }

  module _ (right : Right w) where
    finish_at : (v : World) → Right v → (f : List ℕ) → Increasing v.clock f → (i : ℕ) → i < length (board v) →
        Finish V f v (get_or (board v) i nobody).ticket (get_or (times_of V v f) i 0)
    finish_at v fine f increasing i h =
        pairs_at (λ j q. Finish V f v j.ticket q) (board v) (times_of V v f) i nobody 0 h (bridge V bounded v (right_ready v fine) f increasing)

    removed_at : (i : ℕ) → i < length (board (after w t)) → Removed m V w (after w t) (get_or (board (after w t)) i nobody)
    removed_at i h f a q ends =
        let increasing = allowed_increasing m w.state w.clock f a in
        let found = no_later w.machine right.run f a i h in
        let g = found.faults in
        let mine = finish_at (after w t) (withdrawn_right w t right) f increasing i h in
        let is = least_unique (Gives V f w.clock w.machine (without t w.waiting) (get_or (board (after w t)) i nobody).ticket) q (get_or (times_of V (after w t) f) i 0) ends mine in
        let theirs = finish_at w right g (allowed_increasing m w.state w.clock g found.allowed) found.place found.within in
        let ticket = ap (λ j. j.ticket) found.same in (
          g,
          found.allowed,
          get_or (times_of V w g) found.place 0,
          subst (λ n. Finish V g w n (get_or (times_of V w g) found.place 0)) (sym ticket) theirs,
          elim found.later [ inl no_earlier ↦ inl (omega arith) | inr past ↦ inr past ],
        )

pub removing : (m : Model) → Laws m → Removing m
removing m laws V bounded w small right t =
    All-from_get_or (Removed m V w (after w t)) (board (after w t)) nobody (removed_at m laws V bounded w t small right)
