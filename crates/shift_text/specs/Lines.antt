-- What a line of text says: the call that it writes, or the first field that is missing, wrong or too many.
use Rattle.std.specs.Prelude.{◌≡◌, ℕ, ◌+◌, cond, List, [], ◌∷◌, length, take, Some, None, Ok, Err, Option, Result, ◌==◌, nat_le}
use Rattle.calls.specs.declared.call.Call.{Call}
use Rattle.calls.specs.declared.call.Call.TheVariants.{Book, Pass, Spoil, Withdraw}
use Rattle.calls.specs.declared.refusal.Refusal.{Refusal}
use Rattle.calls.specs.declared.refusal.Refusal.TheVariants.{Malformed}
use Rattle.shift_text.specs.Fields.{Field, Unread, fields, first, number, one_byte}

-- the line is malformed at field i
abbrev pub malformed : {X : Type 0} → ℕ → Result X Refusal
malformed i = Err (Malformed i)

-- field i was read and `next` goes on with the fields after it, or the line is malformed there
abbrev pub at_field : {A X : Type 0} → ℕ → Option (A × List Field) → (A → List Field → Result X Refusal) → Result X Refusal
at_field i None next = malformed i
at_field i (Some p) next = next p.0 p.1

-- The answer r is what `read` makes of the first of the fields that are left, and those behind it are left then; or it is malformed, and nothing moves.
abbrev pub Took : {A : Type 0} → (Field → Option A) → Unread → Unread → Result A Refusal → Type 0
Took read before after (Ok a) = (first read before.fields ≡ Some (a, after.fields)) × (after.next ≡ before.next + 1)
Took read before after (Err refusal) = (first read before.fields ≡ None) × (refusal ≡ Malformed before.next) × (after ≡ before)

-- the line has no field i
abbrev pub ended : {X : Type 0} → ℕ → List Field → X → Result X Refusal
ended i [] x = Ok x
ended i (f ∷ fs) x = malformed i

-- ticket, place, release, due and length
abbrev pub book : List Field → Result Call Refusal
book two =
    at_field 2 (first number two) (λ ticket three.
    at_field 3 (first number three) (λ place four.
    at_field 4 (first number four) (λ release five.
    at_field 5 (first number five) (λ due six.
    at_field 6 (first number six) (λ quarters seven.
    ended 7 seven (Book place (record { ticket = ticket; release = release; due = due; length = quarters })))))))

-- ticket
abbrev pub withdraw : List Field → Result Call Refusal
withdraw two = at_field 2 (first number two) (λ ticket three. ended 3 three (Withdraw ticket))

-- the letters are B, W, P and S
abbrev pub by_letter : ℕ → List Field → Result Call Refusal
by_letter letter two =
    cond (letter == 66) (book two)
    (cond (letter == 87) (withdraw two)
    (cond (letter == 80) (ended 2 two Pass)
    (cond (letter == 83) (ended 2 two Spoil)
    (malformed 1))))

-- the letter of a line of at most 80 bytes, and the fields after it
abbrev pub lettered : List ℕ → Option (ℕ × List Field)
lettered line = cond (nat_le (length line) 80) (first one_byte (fields line)) None

-- what a line after the first says
abbrev pub call : List ℕ → Result Call Refusal
call line = at_field 1 (lettered line) by_letter

-- the bytes that are kept of a line: at most 81, one more than a line may have
abbrev pub kept : List ℕ → List ℕ
kept line = take 81 line
