-- Every world that a log leads to is sound.
use Rattle.std.proofs.Common.{ℕ, ◌<◌, ◌≤◌, [], ◌∷◌, length, refl, inl, inr, arith, Result}
use mathlib.Core.Path.{subst⁻¹}
use Rattle.std.proofs.lemmas.Bool.{cases_lt}
use Rattle.rules.specs.Model.{Model, Laws}
use Rattle.inspections.specs.Verdict.{Verdict, Bounded}
use Rattle.calls.specs.declared.call.Job.{Job}
use Rattle.schedules.specs.World.{World, board, WithinLimits, with_waiting, without}
use Rattle.schedules.specs.declared.run.Kind.TheVariants.{Clean, Spoiled}
use Rattle.schedules.specs.Plans.{EveryPlanFails, proposed}
use Rattle.reckoning.specs.Log.{Asked, book, withdraw, pass, spoil, HasTicket, Reckons, opened}
use Rattle.calls.specs.declared.answer.Answer.{Answer}
use Rattle.calls.specs.declared.refusal.Refusal.{Refusal}
use Rattle.reckoning.specs.Sound.{Sound}
use Rattle.reckoning.specs.Theorems.{LedSound}
use Rattle.reckoning.proofs.Booking.{proposed_right, board_proposed_length, in_time_unless_every_plan_fails}
use Rattle.reckoning.proofs.Withdrawing.{withdrawn_kept}
use Rattle.schedules.proofs.Removing.{withdrawn_right, withdrawn_length}
use Rattle.reckoning.proofs.Quarters.{quarter_sound}

-- the limits are decided
pub within_limits : (j : Job) → ((WithinLimits j → ⊥) → ⊥) → WithinLimits j
within_limits j h = (
  holds 1 j.ticket (λ not. h (λ l. not l.0)),
  holds j.ticket 9999 (λ not. h (λ l. not l.1)),
  holds j.release 4096 (λ not. h (λ l. not l.2)),
  holds j.due 4096 (λ not. h (λ l. not l.3)),
  holds 1 j.length (λ not. h (λ l. not l.4)),
  holds j.length 96 (λ not. h (λ l. not l.5)),
)
  where
    holds : (a b : ℕ) → ((a ≤ b → ⊥) → ⊥) → a ≤ b
    holds a b must = elim (cases_lt b a) [ inl over ↦ absurd (must (λ k. omega arith)) | inr by ↦ by ]

module _ (m : Model) (laws : Laws m) (V : Verdict) (bounded : Bounded V) where
  pub opened_sound : 0 < m.size → Sound m V (opened m)
  opened_sound some = record {
    known = laws.opens some;
    in_time = omega arith;
    right = record { run = tt; limits = tt; distinct = tt };
    few = omega arith;
    kept = λ f a. tt;
  }

  withdrawn_sound : (w : World) (t : ℕ) → Sound m V w → Sound m V (with_waiting w (without t w.waiting))
  withdrawn_sound w t sound = record {
    known = sound.known;
    in_time = sound.in_time;
    right = withdrawn_right w t sound.right;
    few = let fewer = withdrawn_length w.machine t w.waiting in let few = sound.few in omega arith;
    kept = withdrawn_kept m laws V bounded w t sound;
  }

  booked_sound : (w : World) (place : ℕ) (j : Job) → Sound m V w → WithinLimits j → (HasTicket j.ticket (board w) → ⊥) → length (board w) < 24 →
      (EveryPlanFails m V w (proposed place j w.waiting) → ⊥) → Sound m V (with_waiting w (proposed place j w.waiting))
  booked_sound w place j sound limits new room some =
      let right = proposed_right w place j sound.right limits new in
      record {
        known = sound.known;
        in_time = sound.in_time;
        right = right;
        few = let more = board_proposed_length w.machine place j w.waiting in omega arith;
        kept = in_time_unless_every_plan_fails m laws V bounded w (proposed place j w.waiting) sound.known right some;
      }

  pub reckons_sound : (w w' : World) (call : Asked) (answer : Result Answer Refusal) → Sound m V w → Reckons m V w call answer w' → Sound m V w'
  reckons_sound w w' pass answer sound (inl (over, (_, same))) = subst⁻¹ (Sound m V) same sound
  reckons_sound w w' pass answer sound (inr (early, (_, next))) =
      subst⁻¹ (Sound m V) next (quarter_sound m laws V bounded Clean w (m.clean w.state) sound early (laws.clean_stays w.state sound.known) (inl (refl, refl)))
  reckons_sound w w' spoil answer sound (inl (over, (_, same))) = subst⁻¹ (Sound m V) same sound
  reckons_sound w w' spoil answer sound (inr (early, inl (barred, (_, same)))) = subst⁻¹ (Sound m V) same sound
  reckons_sound w w' spoil answer sound (inr (early, inr (permits, (t, permitted, (_, next))))) =
      subst⁻¹ (Sound m V) next (quarter_sound m laws V bounded Spoiled w t sound early (laws.spoiled_stays w.state t sound.known permitted) (inr (refl, permitted)))
  reckons_sound w w' (withdraw t) answer sound (inl (absent, (_, same))) = subst⁻¹ (Sound m V) same sound
  reckons_sound w w' (withdraw t) answer sound (inr (present, inl (runs, (_, same)))) = subst⁻¹ (Sound m V) same sound
  reckons_sound w w' (withdraw t) answer sound (inr (present, inr (waits, (_, next)))) = subst⁻¹ (Sound m V) next (withdrawn_sound w t sound)
  reckons_sound w w' (book room place j) answer sound (inl (_, (_, same))) = subst⁻¹ (Sound m V) same sound
  reckons_sound w w' (book room place j) answer sound (inr (_, inl (_, (_, same)))) = subst⁻¹ (Sound m V) same sound
  reckons_sound w w' (book room place j) answer sound (inr (_, inr (_, inl (_, (_, same))))) = subst⁻¹ (Sound m V) same sound
  reckons_sound w w' (book room place j) answer sound (inr (_, inr (_, inr (_, inl (_, (_, same)))))) = subst⁻¹ (Sound m V) same sound
  reckons_sound w w' (book room place j) answer sound (inr (_, inr (_, inr (_, inr (_, inl (_, (_, same))))))) = subst⁻¹ (Sound m V) same sound
  reckons_sound w w' (book room place j) answer sound (inr (_, inr (_, inr (_, inr (_, inr (_, inl (_, (t, _, (_, same))))))))) = subst⁻¹ (Sound m V) same sound
  reckons_sound w w' (book room place j) answer sound (inr (limits, inr (new, inr (few, inr (_, inr (_, inr (some, (c, _, _, next)))))))) =
      subst⁻¹ (Sound m V) next (booked_sound w place j sound (within_limits j limits) new (omega arith) some)

pub led_sound : (m : Model) → Laws m → LedSound m
led_sound m laws V bounded some [] w led = subst⁻¹ (Sound m V) led (opened_sound m laws V bounded some)
led_sound m laws V bounded some (e ∷ log) w (v, led, reckons) =
    reckons_sound m laws V bounded v w e.call e.answer (led_sound m laws V bounded some log v led) reckons
