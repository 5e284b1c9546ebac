-- What a line after the first is answered, on a board with an empty machine.
use Rattle.std.specs.Prelude.{ℕ, Bool, false, cond, ◌||◌, List, [], ◌∷◌, Ok, Err, Result, ◌==◌}
use Rattle.board.specs.Quarters.{Quarter, passed, spoiled}
use Rattle.board.specs.declared.moment.Moment.{Moment}
use Rattle.calls.specs.declared.answer.Answer.{Answer}
use Rattle.calls.specs.declared.answer.Answer.TheVariants.{Quarter as QuarterOver}
use Rattle.calls.specs.declared.answer.Event.{Event}
use Rattle.calls.specs.declared.call.Call.{Call}
use Rattle.calls.specs.declared.call.Call.TheVariants.{Book, Pass, Spoil, Withdraw}
use Rattle.calls.specs.declared.refusal.Refusal.{Refusal}
use Rattle.calls.specs.declared.refusal.Refusal.TheVariants.{Malformed}
use Rattle.rules.specs.Model.{Model}
use Rattle.shift_text.specs.Lines.{call, malformed}

-- a line of a letter that the board does not take yet: B or W
abbrev pub unheard : List ℕ → Bool
unheard [] = false
unheard (b ∷ bs) = b == 66 || b == 87

-- the call of a line: those letters are malformed
abbrev pub heard : List ℕ → Result Call Refusal
heard line = cond (unheard line) (malformed 1) (call line)

-- an answer, and the moment after it
pub record Turn : Type 0 where
  pub answer : Result Answer Refusal
  pub after : Moment

-- the answer that a quarter gives
abbrev pub over : Result Event Refusal → Result Answer Refusal
over (Ok event) = Ok (QuarterOver event)
over (Err refusal) = Err refusal

-- the turn of an answer and the moment after it
abbrev pub turn : Result Answer Refusal → Moment → Turn
turn answer after = record { answer = answer; after = after }

-- the answer and the moment that a quarter gives
abbrev pub quarter_turn : Quarter → Turn
quarter_turn quarter = record { answer = over quarter.answer; after = quarter.after }

-- nothing moves at a refusal
abbrev pub refused : Refusal → Moment → Turn
refused refusal w = record { answer = Err refusal; after = w }

-- what a line is answered, by the call that was heard; bookings and withdrawals are not heard yet
abbrev pub answered : Model → Moment → Result Call Refusal → Turn
answered m w (Err refusal) = refused refusal w
answered m w (Ok (Book place job)) = refused (Malformed 1) w
answered m w (Ok (Withdraw ticket)) = refused (Malformed 1) w
answered m w (Ok Pass) = quarter_turn (passed m w)
answered m w (Ok Spoil) = quarter_turn (spoiled m w)
