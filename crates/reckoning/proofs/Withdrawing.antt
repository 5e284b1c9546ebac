-- A board without one of its waiting jobs: no other job finishes later, so all are in time.
use Rattle.std.proofs.Common.{◌≡◌, ℕ, ◌<◌, ◌≤◌, List, length, get_or, inl, inr, arith}
use Rattle.calls.specs.declared.call.Job.{Job}
use Rattle.inspections.specs.Verdict.{Bounded, Verdict}
use Rattle.reckoning.specs.Sound.{Sound}
use Rattle.reckoning.specs.Theorems.{NotDelayed, Withdrawing}
use Rattle.rules.specs.Faults.{Allowed}
use Rattle.rules.specs.Model.{Laws, Model}
use Rattle.schedules.proofs.Bridge.{bridge}
use Rattle.schedules.proofs.Lists.{pairs_at}
use Rattle.schedules.proofs.Planned.{allowed_increasing, least_unique, right_ready}
use Rattle.schedules.proofs.Removing.{removing, withdrawn_all, withdrawn_right}
use Rattle.schedules.proofs.Times.{times_of}
use Rattle.schedules.specs.Theorems.{Removed}
use Rattle.schedules.specs.Walk.{Finish, Gives, OnTime}
use Rattle.schedules.specs.World.{WithinLimits, World, board, nobody, with_waiting, without}
use Rattle.std.proofs.ByRecursion.{All-from_get_or, All-get_or}
use Rattle.std.specs.List.{AllByRecursion}

module _ (m : Model) (laws : Laws m) (V : Verdict) (bounded : Bounded V) (w : World) (t : ℕ) (sound : Sound m V w) where
  abbrev after : World
  after = with_waiting w (without t w.waiting)

  -- the job finishes no later than it may with the other job there, and that is in time
  abbrev InTimeStill : Job → Type 0
  InTimeStill j =
      (f : List ℕ) → Allowed m w.state w.clock f → (q : ℕ) → Finish V f after j.ticket q →
      (g : List ℕ) × Allowed m w.state w.clock g × (r : ℕ) × Finish V g w j.ticket r × (q ≤ r) × (r ≤ j.due)

  still : (j : Job) → Removed m V w after j → WithinLimits j → ((g : List ℕ) → Allowed m w.state w.clock g → OnTime V g w j) → InTimeStill j
  still j removed limits on_time f a q ends =
      let (g, b, r, there, late) = removed f a q ends in
      let (n, there', by) = on_time g b in
      let same : r ≡ n = least_unique (Gives V g w.clock w.machine w.waiting j.ticket) r n there there' in
      let due = limits.3 in
      (g, b, r, there, elim late [ inl no_later ↦ no_later | inr past ↦ absurd (omega arith) ], omega arith)

  still_at : (i : ℕ) → i < length (board after) → InTimeStill (get_or (board after) i nobody)
  still_at i h =
      still (get_or (board after) i nobody) (All-get_or (Removed m V w after) (board after) i nobody h (removing m laws V bounded w sound.known sound.right t))
      (All-get_or WithinLimits (board after) i nobody h (withdrawn_all WithinLimits w.machine t w.waiting sound.right.limits))
      (λ g b. All-get_or (OnTime V g w) (board after) i nobody h (withdrawn_all (OnTime V g w) w.machine t w.waiting (sound.kept g b)))

  pub withdrawn_kept : (f : List ℕ) → Allowed m w.state w.clock f → AllByRecursion (OnTime V f after) (board after)
  withdrawn_kept f a =
      All-from_get_or (OnTime V f after) (board after) nobody (λ i h.
      let increasing = allowed_increasing m w.state w.clock f a in
      let q = get_or (times_of V after f) i 0 in
      let ends = pairs_at (λ j n. Finish V f after j.ticket n) (board after) (times_of V after f) i nobody 0 h
      (bridge V bounded after (right_ready after (withdrawn_right w t sound.right)) f increasing) in
      let (g, b, r, there, no_later, by) = still_at i h f a q ends in
      (q, ends, omega arith))

  not_delayed : AllByRecursion (NotDelayed m V w after) (board after)
  not_delayed =
      All-from_get_or (NotDelayed m V w after) (board after) nobody (λ i h f a q ends.
      let (g, b, r, there, no_later, by) = still_at i h f a q ends in
      (g, b, r, there, no_later))

pub withdrawing : (m : Model) → Laws m → Withdrawing m
withdrawing m laws V bounded w sound t = not_delayed m laws V bounded w t sound
