-- The clock counts the quarters of the log.
use Rattle.std.proofs.Common.{◌≡◌, suc, ◌+◌, List, [], ◌∷◌, length, refl, ap, ◌∙◌, inl, inr, arith, length-append, Err, Result}
use Rattle.rules.specs.Model.{Model}
use Rattle.inspections.specs.Verdict.{Verdict}
use Rattle.schedules.specs.World.{World}
use Rattle.reckoning.specs.Log.{Asked, book, withdraw, pass, spoil, Reckons, Entry, Led}
use Rattle.calls.specs.declared.answer.Answer.{Answer}
use Rattle.reckoning.specs.Fates.{said, quarters}
use Rattle.calls.specs.declared.refusal.Refusal.TheVariants.{BoardFull, ClockEnded, FaultForbidden, Late, OutsideLimits, PlaceTooFar, TableTooShort, TicketOnMachine, TicketTaken, TicketUnknown}
use Rattle.calls.specs.declared.refusal.Refusal.{Refusal}

said_refused : (call : Asked) (r : Refusal) → said call (Err r) ≡ []
said_refused pass r = refl
said_refused spoil r = refl
said_refused (book room place j) r = refl
said_refused (withdraw t) r = refl

pub silent : (call : Asked) (answer : Result Answer Refusal) (r : Refusal) → answer ≡ Err r → said call answer ≡ []
silent call answer r is = ap (said call) is ∙ said_refused call r

refused_clock : (call : Asked) (answer : Result Answer Refusal) (r : Refusal) (v w : World) → answer ≡ Err r → w ≡ v → w.clock ≡ length (said call answer) + v.clock
refused_clock call answer r v w is same =
    let none : length (said call answer) ≡ 0 = ap length (silent call answer r is) in
    let clock : w.clock ≡ v.clock = ap (λ x. x.clock) same in
    omega arith

module _ (m : Model) (V : Verdict) where
  reckons_clock : (v w : World) (call : Asked) (answer : Result Answer Refusal) → Reckons m V v call answer w → w.clock ≡ length (said call answer) + v.clock
  reckons_clock v w pass answer (inl (_, (is, same))) = refused_clock pass answer ClockEnded v w is same
  reckons_clock v w pass answer (inr (_, (is, next))) =
      let one : length (said pass answer) ≡ 1 = ap (λ a. length (said pass a)) is in
      let clock : w.clock ≡ suc v.clock = ap (λ x. x.clock) next in
      omega arith
  reckons_clock v w spoil answer (inl (_, (is, same))) = refused_clock spoil answer ClockEnded v w is same
  reckons_clock v w spoil answer (inr (_, inl (_, (is, same)))) = refused_clock spoil answer FaultForbidden v w is same
  reckons_clock v w spoil answer (inr (_, inr (_, (t, _, (is, next))))) =
      let one : length (said spoil answer) ≡ 1 = ap (λ a. length (said spoil a)) is in
      let clock : w.clock ≡ suc v.clock = ap (λ x. x.clock) next in
      omega arith
  reckons_clock v w (withdraw t) answer (inl (_, (is, same))) = refused_clock (withdraw t) answer TicketUnknown v w is same
  reckons_clock v w (withdraw t) answer (inr (_, inl (_, (is, same)))) = refused_clock (withdraw t) answer TicketOnMachine v w is same
  reckons_clock v w (withdraw t) answer (inr (_, inr (_, (is, next)))) = let clock : w.clock ≡ v.clock = ap (λ x. x.clock) next in omega arith
  reckons_clock v w (book room place j) answer (inl (_, (is, same))) = refused_clock (book room place j) answer OutsideLimits v w is same
  reckons_clock v w (book room place j) answer (inr (_, inl (_, (is, same)))) = refused_clock (book room place j) answer TicketTaken v w is same
  reckons_clock v w (book room place j) answer (inr (_, inr (_, inl (_, (is, same))))) = refused_clock (book room place j) answer BoardFull v w is same
  reckons_clock v w (book room place j) answer (inr (_, inr (_, inr (_, inl (_, (is, same)))))) = refused_clock (book room place j) answer PlaceTooFar v w is same
  reckons_clock v w (book room place j) answer (inr (_, inr (_, inr (_, inr (_, inl (_, (is, same))))))) = refused_clock (book room place j) answer TableTooShort v w is same
  reckons_clock v w (book room place j) answer (inr (_, inr (_, inr (_, inr (_, inr (_, inl (_, (t, _, (is, same))))))))) = refused_clock (book room place j) answer (Late t) v w is same
  reckons_clock v w (book room place j) answer (inr (_, inr (_, inr (_, inr (_, inr (_, inr (_, (c, _, _, next)))))))) =
      let clock : w.clock ≡ v.clock = ap (λ x. x.clock) next in omega arith

  pub led_clock : (log : List Entry) (w : World) → Led m V log w → w.clock ≡ length (quarters log)
  led_clock [] w led = ap (λ x. x.clock) led
  led_clock (e ∷ log) w (v, led, reckons) =
      let before = led_clock log v led in
      let step = reckons_clock v w e.call e.answer reckons in
      let longer = length-append (said e.call e.answer) (quarters log) in
      omega arith
