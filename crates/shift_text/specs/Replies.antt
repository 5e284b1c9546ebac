-- An answer as a line of text: the line number, 0 or the refusal's number, and the detail, parted by tabs and ended by a line feed.
use Rattle.std.specs.Prelude.{ℕ, List, [], ◌∷◌, ◌++◌, Ok, Err, decimal, Result}
use Rattle.calls.specs.declared.answer.Answer.{Answer}
use Rattle.calls.specs.declared.answer.Answer.TheVariants.{Quarter, Taken, Withdrawn}
use Rattle.calls.specs.declared.answer.Event.{Event}
use Rattle.calls.specs.declared.answer.Event.TheVariants.{Again, Finished, Idle, Running}
use Rattle.calls.specs.declared.refusal.Refusal.{Refusal}
use Rattle.calls.specs.Refusals.{code as refusal_code}
use Rattle.shift_text.specs.declared.reply.Reply.{Reply}
use Rattle.shift_text.specs.declared.reply.Reply.TheVariants.{Answered, Opened}

-- the letter and the ticket of an event: I with 0, R, A and F with the job's
abbrev pub event_parts : Event → ℕ × ℕ
event_parts Idle = (73, 0)
event_parts (Running ticket) = (82, ticket)
event_parts (Again ticket) = (65, ticket)
event_parts (Finished ticket) = (70, ticket)

-- a letter and the digits of a number
abbrev pub lettered_number : ℕ × ℕ → List ℕ
lettered_number p = p.0 ∷ decimal p.1

-- the detail of what came of a call
abbrev pub answer_detail : Answer → List ℕ
answer_detail (Taken worst) = decimal worst
answer_detail Withdrawn = decimal 0
answer_detail (Quarter event) = lettered_number (event_parts event)

-- and of any reply
abbrev pub detail : Reply → List ℕ
detail (Opened size) = decimal size
detail (Answered answer) = answer_detail answer

-- the three fields as a line
abbrev pub fields_line : ℕ → ℕ → List ℕ → List ℕ
fields_line number code rest = decimal number ++ (9 ∷ (decimal code ++ (9 ∷ (rest ++ (10 ∷ [])))))

-- the line that answers the line of this number
abbrev pub reply_line : ℕ → Result Reply Refusal → List ℕ
reply_line number (Ok reply) = fields_line number 0 (detail reply)
reply_line number (Err refusal) = fields_line number (refusal_code refusal).0 (decimal (refusal_code refusal).1)
