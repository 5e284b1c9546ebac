-- A booking is refused for lateness exactly where every plan fails.
use Rattle.std.proofs.Common.{◌≡◌, ℕ, List, [], ◌∷◌, ◌++◌, subst, inl, inr, arith, Ok, Err, Result}
use Rattle.rules.specs.Model.{Model, Laws}
use Rattle.inspections.specs.Verdict.{Verdict, Bounded}
use Rattle.calls.specs.declared.call.Job.{Job}
use Rattle.schedules.specs.World.{World}
use Rattle.schedules.specs.Plans.{FailsFor, proposed}
use Rattle.reckoning.specs.Log.{book, Reckons, Entry, Led}
use Rattle.calls.specs.declared.answer.Answer.{Answer}
use Rattle.calls.specs.declared.answer.Answer.TheVariants.{Taken}
use Rattle.reckoning.specs.Sound.{Sound}
use Rattle.reckoning.specs.Theorems.{NoOtherFault, AnsweredExactly, LateExactly}
use Rattle.reckoning.proofs.Booking.{proposed_right}
use Rattle.schedules.proofs.Decides.{decides}
use Rattle.reckoning.proofs.Sound.{led_sound}
use Rattle.reckoning.proofs.OneAnswer.{one_world}
use Rattle.calls.specs.declared.refusal.Refusal.{Refusal}
use Rattle.calls.specs.declared.refusal.Refusal.TheVariants.{Late}

refused_not_taken : (a : Result Answer Refusal) (r : Refusal) (c : ℕ) → a ≡ Err r → a ≡ Ok (Taken c) → ⊥
refused_not_taken a r c p q = let z : ◌≡◌ {A = ℕ} 0 1 = cc in omega arith

same_ticket : (a : Result Answer Refusal) (d e : ℕ) → a ≡ Err (Late d) → a ≡ Err (Late e) → d ≡ e
same_ticket a d e p q = cc

-- an entry of a log was reckoned in the world that the entries before it led to
pub found : (m : Model) (V : Verdict) (later earlier : List Entry) (e : Entry) (w : World) → Led m V (later ++ (e ∷ earlier)) w →
    (v v' : World) × Led m V earlier v × Reckons m V v e.call e.answer v'
found m V [] earlier e w (v, led, reckons) = (v, w, led, reckons)
found m V (x ∷ later) earlier e w (v, led, reckons) = found m V later earlier e v led

module _ (m : Model) (laws : Laws m) (V : Verdict) (bounded : Bounded V) where
  exactly : (v v' : World) (room place : ℕ) (j : Job) (answer : Result Answer Refusal) → Sound m V v → NoOtherFault v room place j → Reckons m V v (book room place j) answer v' →
      AnsweredExactly m V v (proposed place j v.waiting) answer
  exactly v v' room place j answer sound (limits, new, few, near, table) (inl (out, _)) = absurd (out limits)
  exactly v v' room place j answer sound (limits, new, few, near, table) (inr (_, inl (old, _))) = absurd (new old)
  exactly v v' room place j answer sound (limits, new, few, near, table) (inr (_, inr (_, inl (full, _)))) = absurd (omega arith)
  exactly v v' room place j answer sound (limits, new, few, near, table) (inr (_, inr (_, inr (_, inl (above, _))))) = absurd (omega arith)
  exactly v v' room place j answer sound (limits, new, few, near, table) (inr (_, inr (_, inr (_, inr (_, inl (short, _)))))) = absurd (omega arith)
  exactly v v' room place j answer sound (limits, new, few, near, table) (inr (_, inr (_, inr (_, inr (_, inr (_, inl (every, (t, late, (is, _))))))))) =
      let jobs = proposed place j v.waiting in
      let right = proposed_right v place j sound.right limits new in (
        (λ _. (t, is), λ _. every),
        (λ some. absurd (some every), λ (c, took). absurd (refused_not_taken answer (Late t) c is took)),
        λ s as_said starts plan.
            subst (FailsFor m V v jobs starts) (same_ticket answer t s is as_said) ((decides m laws V bounded v jobs sound.known right).1 t late starts plan),
      )
  exactly v v' room place j answer sound (limits, new, few, near, table) (inr (_, inr (_, inr (_, inr (_, inr (_, inr (some, (c, _, is, _)))))))) = (
    (λ every. absurd (some every), λ (t, as_said). absurd (refused_not_taken answer (Late t) c as_said is)),
    (λ _. (c, is), λ _. some),
    λ s as_said starts plan. absurd (refused_not_taken answer (Late s) c as_said is),
  )

pub late_exactly : (m : Model) → Laws m → LateExactly m
late_exactly m laws V bounded some later earlier room place j answer w led v led' =
    let (u, u', led'', reckons) = found m V later earlier (record { call = book room place j; answer = answer }) w led in
    let same : u ≡ v = one_world m V earlier u v led'' led' in
    λ clear.
    exactly m laws V bounded v u' room place j answer (led_sound m laws V bounded some earlier v led') clear (subst (λ x. Reckons m V x (book room place j) answer u') same reckons)
