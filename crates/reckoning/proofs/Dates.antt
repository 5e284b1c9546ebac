-- Dates are kept: what becomes of each job that was booked.
use Rattle.std.proofs.Common.{◌≡◌, ℕ, ◌<◌, ◌⊎◌, List, [], ◌∷◌, ◌++◌, length, Some, None, Option, sym, refl, ap, subst, inl, inr, arith, Ok, Err, Result}
use mathlib.Core.Path.{subst⁻¹}
use Rattle.std.specs.List.{AllByRecursion}
use Rattle.std.proofs.ByRecursion.{All-weaker}
use Rattle.std.proofs.lemmas.Bool.{cases_eq}
use Rattle.rules.specs.Model.{Model, Laws}
use Rattle.inspections.specs.Verdict.{Verdict, Bounded}
use Rattle.calls.specs.declared.call.Job.{Job}
use Rattle.schedules.specs.declared.run.Run.{Run}
use Rattle.schedules.specs.World.{World, quarter, on_machine, board}
use Rattle.schedules.specs.declared.run.Kind.{Kind}
use Rattle.schedules.specs.declared.run.Kind.TheVariants.{Clean, Spoiled}
use Rattle.calls.specs.declared.answer.Event.{Event}
use Rattle.calls.specs.declared.answer.Event.TheVariants.{Finished}
use Rattle.schedules.specs.Walk.{OnTime}
use Rattle.reckoning.specs.Log.{Asked, book, withdraw, pass, spoil, HasTicket, one_quarter, Reckons, Entry, Led}
use Rattle.calls.specs.declared.answer.Answer.{Answer}
use Rattle.calls.specs.declared.answer.Answer.TheVariants.{Taken, Withdrawn, Quarter}
use Rattle.reckoning.specs.Sound.{Sound}
use Rattle.reckoning.specs.Fates.{said, quarters, Leaves, booking, withdrawal, finishing, LeftBy, WasWithdrawn, WasFinished}
use Rattle.reckoning.specs.Theorems.{DatesKept}
use Rattle.reckoning.proofs.Sound.{led_sound}
use Rattle.reckoning.proofs.Clock.{silent, led_clock}
use Rattle.reckoning.proofs.Staying.{on_all, board_proposed_on, board_proposed_new, board_without_on}
use Rattle.reckoning.proofs.Tracks.{Progress, On, Tracked, quarter_tracks}
use Rattle.calls.specs.declared.refusal.Refusal.TheVariants.{BoardFull, ClockEnded, FaultForbidden, Late, OutsideLimits, PlaceTooFar, TableTooShort, TicketOnMachine, TicketTaken, TicketUnknown}
use Rattle.calls.specs.declared.refusal.Refusal.{Refusal}

-- every job on the board has time left
pub due_ahead : (m : Model) (V : Verdict) (w : World) → Sound m V w → AllByRecursion (λ j. w.clock < j.due) (board w)
due_ahead m V w sound =
    All-weaker (OnTime V [] w) (λ j. w.clock < j.due) (λ j (q, ((n, at, _), _), by). omega arith) (board w) (sound.kept [] tt)

-- answers told apart

refused_stays : (t : ℕ) (r : Refusal) (e : Entry) → e.answer ≡ Err r → Leaves t e → ⊥
refused_stays t r e is (inl (_, out)) = let z : ◌≡◌ {A = ℕ} 0 1 = cc in omega arith
refused_stays t r e is (inr done) = let z : ◌≡◌ {A = ℕ} 0 1 = cc in omega arith

taken_stays : (t c : ℕ) (e : Entry) → e.answer ≡ Ok (Taken c) → Leaves t e → ⊥
taken_stays t c e is (inl (_, out)) = let z : ◌≡◌ {A = ℕ} 0 1 = cc in omega arith
taken_stays t c e is (inr done) = let z : ◌≡◌ {A = ℕ} 0 1 = cc in omega arith

quarter_stays : (t : ℕ) (event : Event) (e : Entry) → e.answer ≡ Ok (Quarter event) → (event ≡ Finished t → ⊥) → Leaves t e → ⊥
quarter_stays t event e is not (inl (_, out)) = let z : ◌≡◌ {A = ℕ} 0 1 = cc in omega arith
quarter_stays t event e is not (inr done) = not (let same : event ≡ Finished t = cc in same)

withdrawal_stays : (s t : ℕ) (e : Entry) → e.call ≡ withdraw s → e.answer ≡ Ok Withdrawn → (t ≡ s → ⊥) → Leaves t e → ⊥
withdrawal_stays s t e call is other (inl (call', out)) = other (let same : t ≡ s = cc in same)
withdrawal_stays s t e call is other (inr done) = let z : ◌≡◌ {A = ℕ} 0 1 = cc in omega arith

not_refused : (c : ℕ) (r : Refusal) → Ok (Taken c) ≡ Err r → ⊥
not_refused c r e = let z : ◌≡◌ {A = ℕ} 0 1 = cc in omega arith

spoiled_not_clean : Spoiled ≡ Clean → ⊥
spoiled_not_clean e = let z : ◌≡◌ {A = ℕ} 0 1 = cc in omega arith

-- the job is on the board still, and its run so far are the last quarters
abbrev Still : Job → List Entry → World → Type 0
Still j later w = On j (board w) × AllByRecursion (λ x. Leaves j.ticket x → ⊥) later × Progress j (quarters later) w.machine

abbrev Track : Job → List Entry → List Entry → World → Type 0
Track j later earlier w = Still j later w ⊎ (WasWithdrawn j later ⊎ WasFinished j later earlier)

-- a call that is no quarter, and after which the job is on the board
still_on : (j : Job) (later : List Entry) (e : Entry) (v w : World) → said e.call e.answer ≡ [] → (Leaves j.ticket e → ⊥) → w.machine ≡ v.machine →
    On j (board w) → Still j later v → Still j (e ∷ later) w
still_on j later e v w nothing stays machine on still = (
  on,
  (stays, still.1),
  subst⁻¹ (λ q. Progress j q w.machine) (ap (λ l. l ++ quarters later) nothing) (subst⁻¹ (Progress j (quarters later)) machine still.2),
)

still_refused : (j : Job) (later : List Entry) (e : Entry) (r : Refusal) (v w : World) → e.answer ≡ Err r → w ≡ v → Still j later v → Still j (e ∷ later) w
still_refused j later e r v w is same still =
    still_on j later e v w (silent e.call e.answer r is) (refused_stays j.ticket r e is) (ap (λ x. x.machine) same) (subst⁻¹ (λ x. On j (board x)) same still.0) still

module _ (m : Model) (V : Verdict) where
  -- a quarter
  still_quarter : (j : Job) (later earlier : List Entry) (k : Kind) (state : ℕ) (v : World) → Sound m V v → v.clock ≡ length (quarters (later ++ earlier)) → (call : Asked) →
      (k ≡ Clean → call ≡ pass) → ((event : Event) → said call (Ok (Quarter event)) ≡ (k, event) ∷ []) → Still j later v →
      Track j (record { call = call; answer = Ok (Quarter (quarter V k v.clock v.machine v.waiting).event) } ∷ later) earlier (one_quarter V k v state)
  still_quarter j later earlier k state v sound clock call by_pass says (on, stays, progress) =
      go (quarter_tracks V k v.clock v.machine v.waiting j (quarters later) on sound.right.distinct progress)
    where
      event : Event
      event = (quarter V k v.clock v.machine v.waiting).event

      e : Entry
      e = record { call = call; answer = Ok (Quarter event) }

      w : World
      w = one_quarter V k v state

      go : Tracked j (quarters later) k w.machine event w.waiting → Track j (e ∷ later) earlier w
      go (inl (on', not, progress')) = inl (
        on',
        (quarter_stays j.ticket event e refl not, stays),
        subst⁻¹ (λ q. Progress j q w.machine) (ap (λ l. l ++ quarters later) (says event)) progress',
      )
      go (inr (kind, done, run)) =
          let is : e ≡ finishing j = λ i. record { call = by_pass kind i; answer = Ok (Quarter (done i)) } in
          let soon = on_all (λ x. v.clock < x.due) j (board v) (due_ahead m V v sound) on in
          inr (inr (later, (([], ap (λ x. x ∷ later) is), stays), run, omega arith))

  -- one call
  still_step : (j : Job) (later earlier : List Entry) (call : Asked) (answer : Result Answer Refusal) (v w : World) → Sound m V v → v.clock ≡ length (quarters (later ++ earlier)) →
      Reckons m V v call answer w → Still j later v → Track j (record { call = call; answer = answer } ∷ later) earlier w
  still_step j later earlier pass answer v w sound clock (inl (_, (is, same))) still = inl (still_refused j later (record { call = pass; answer = answer }) ClockEnded v w is same still)
  still_step j later earlier pass answer v w sound clock (inr (_, (is, next))) still =
      subst⁻¹ (λ a. Track j (record { call = pass; answer = a } ∷ later) earlier w) is
      (subst⁻¹ (Track j (record { call = pass; answer = Ok (Quarter (quarter V Clean v.clock v.machine v.waiting).event) } ∷ later) earlier) next
      (still_quarter j later earlier Clean (m.clean v.state) v sound clock pass (λ e. refl) (λ e. refl) still))
  still_step j later earlier spoil answer v w sound clock (inl (_, (is, same))) still = inl (still_refused j later (record { call = spoil; answer = answer }) ClockEnded v w is same still)
  still_step j later earlier spoil answer v w sound clock (inr (_, inl (_, (is, same)))) still = inl (still_refused j later (record { call = spoil; answer = answer }) FaultForbidden v w is same still)
  still_step j later earlier spoil answer v w sound clock (inr (_, inr (_, (t, _, (is, next))))) still =
      subst⁻¹ (λ a. Track j (record { call = spoil; answer = a } ∷ later) earlier w) is
      (subst⁻¹ (Track j (record { call = spoil; answer = Ok (Quarter (quarter V Spoiled v.clock v.machine v.waiting).event) } ∷ later) earlier) next
      (still_quarter j later earlier Spoiled t v sound clock spoil (λ e. absurd (spoiled_not_clean e)) (λ e. refl) still))
  still_step j later earlier (withdraw t) answer v w sound clock (inl (_, (is, same))) still =
      inl (still_refused j later (record { call = withdraw t; answer = answer }) TicketUnknown v w is same still)
  still_step j later earlier (withdraw t) answer v w sound clock (inr (_, inl (_, (is, same)))) still =
      inl (still_refused j later (record { call = withdraw t; answer = answer }) TicketOnMachine v w is same still)
  still_step j later earlier (withdraw t) answer v w sound clock (inr (_, inr (_, (is, next)))) still =
      let e : Entry = record { call = withdraw t; answer = answer } in
      elim (cases_eq j.ticket t) [
        | inl out ↦
            let same : e ≡ withdrawal j = λ i. record { call = withdraw (sym out i); answer = is i } in
            inr (inl (later, (([], ap (λ x. x ∷ later) same), still.1)))
        | inr other ↦
            inl (still_on j later e v w refl (withdrawal_stays t j.ticket e refl is other) (ap (λ x. x.machine) next)
            (subst⁻¹ (λ x. On j (board x)) next (board_without_on j v.machine t v.waiting other still.0)) still)
      ]
  still_step j later earlier (book room place k) answer v w sound clock (inl (_, (is, same))) still =
      inl (still_refused j later (record { call = book room place k; answer = answer }) OutsideLimits v w is same still)
  still_step j later earlier (book room place k) answer v w sound clock (inr (_, inl (_, (is, same)))) still =
      inl (still_refused j later (record { call = book room place k; answer = answer }) TicketTaken v w is same still)
  still_step j later earlier (book room place k) answer v w sound clock (inr (_, inr (_, inl (_, (is, same))))) still =
      inl (still_refused j later (record { call = book room place k; answer = answer }) BoardFull v w is same still)
  still_step j later earlier (book room place k) answer v w sound clock (inr (_, inr (_, inr (_, inl (_, (is, same)))))) still =
      inl (still_refused j later (record { call = book room place k; answer = answer }) PlaceTooFar v w is same still)
  still_step j later earlier (book room place k) answer v w sound clock (inr (_, inr (_, inr (_, inr (_, inl (_, (is, same))))))) still =
      inl (still_refused j later (record { call = book room place k; answer = answer }) TableTooShort v w is same still)
  still_step j later earlier (book room place k) answer v w sound clock (inr (_, inr (_, inr (_, inr (_, inr (_, inl (_, (t, _, (is, same))))))))) still =
      inl (still_refused j later (record { call = book room place k; answer = answer }) (Late t) v w is same still)
  still_step j later earlier (book room place k) answer v w sound clock (inr (_, inr (_, inr (_, inr (_, inr (_, inr (_, (c, _, is, next)))))))) still =
      let e : Entry = record { call = book room place k; answer = answer } in
      inl (still_on j later e v w refl (taken_stays j.ticket c e is) (ap (λ x. x.machine) next)
      (subst⁻¹ (λ x. On j (board x)) next (board_proposed_on j v.machine place k v.waiting still.0)) still)

  -- the booking itself
  new_progress : (j : Job) (machine : Option Run) (ws : List Job) → (HasTicket j.ticket (on_machine machine ++ ws) → ⊥) → Progress j [] machine
  new_progress j None ws new = tt
  new_progress j (Some r) ws new = λ e. absurd (new (inl e))

  booked : (j : Job) (room place c : ℕ) (v w : World) → Reckons m V v (book room place j) (Ok (Taken c)) w → Still j [] w
  booked j room place c v w (inl (_, (is, _))) = absurd (not_refused c OutsideLimits is)
  booked j room place c v w (inr (_, inl (_, (is, _)))) = absurd (not_refused c TicketTaken is)
  booked j room place c v w (inr (_, inr (_, inl (_, (is, _))))) = absurd (not_refused c BoardFull is)
  booked j room place c v w (inr (_, inr (_, inr (_, inl (_, (is, _)))))) = absurd (not_refused c PlaceTooFar is)
  booked j room place c v w (inr (_, inr (_, inr (_, inr (_, inl (_, (is, _))))))) = absurd (not_refused c TableTooShort is)
  booked j room place c v w (inr (_, inr (_, inr (_, inr (_, inr (_, inl (_, (t, _, (is, _))))))))) = absurd (not_refused c (Late t) is)
  booked j room place c v w (inr (_, inr (new, inr (_, inr (_, inr (_, inr (_, (d, _, _, next)))))))) =
      subst⁻¹ (Still j []) next (board_proposed_new v.machine place j v.waiting, tt, new_progress j v.machine v.waiting new)

  -- what has become of the job stays so
  left_more : (j : Job) (e x : Entry) (before later : List Entry) → LeftBy j e before later → LeftBy j e before (x ∷ later)
  left_more j e x before later ((after, is), stays) = ((x ∷ after, ap (λ l. x ∷ l) is), stays)

  track : (laws : Laws m) (bounded : Bounded V) (some : 0 < m.size) (later earlier : List Entry) (room place c : ℕ) (j : Job) (w : World) →
      Led m V (later ++ (booking room place j c ∷ earlier)) w → Track j later (booking room place j c ∷ earlier) w
  track laws bounded some [] earlier room place c j w (v, led, reckons) = inl (booked j room place c v w reckons)
  track laws bounded some (e ∷ later) earlier room place c j w (v, led, reckons) =
      elim (track laws bounded some later earlier room place c j v led) [
        | inl still ↦
            still_step j later (booking room place j c ∷ earlier) e.call e.answer v w (led_sound m laws V bounded some _ v led) (led_clock m V _ v led) reckons still
        | inr (inl (before, left)) ↦ inr (inl (before, left_more j (withdrawal j) e before later left))
        | inr (inr (before, left, run, by)) ↦ inr (inr (before, left_more j (finishing j) e before later left, run, by))
      ]

pub dates_kept : (m : Model) → Laws m → DatesKept m
dates_kept m laws V bounded some log w led = (
  led_clock m V log w led,
  due_ahead m V w (led_sound m laws V bounded some log w led),
  λ later earlier room place c j is.
      elim (track m V laws bounded some later earlier room place c j w (subst (λ l. Led m V l w) is led)) [
        | inl (on, stays, progress) ↦ inl (on, stays)
        | inr gone ↦ inr gone
      ],
)
