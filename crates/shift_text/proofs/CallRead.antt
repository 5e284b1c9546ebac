-- What `read_call` promises: the call of a line, its one text, and the first field that is wrong.
use Rattle.std.proofs.Common.{◌≡◌, ℕ, cond, eqb, List, [], ◌∷◌, map, Some, None, Ok, decimal, Option, Result, sym, refl, ap, ◌∙◌, ap₂, arith}
use Rattle.calls.specs.declared.call.Call.{Call}
use Rattle.calls.specs.declared.call.Call.TheVariants.{Book, Pass, Spoil, Withdraw}
use Rattle.calls.specs.declared.refusal.Refusal.{Refusal}
use Rattle.shift_text.proofs.Cutting.{call_kept}
use Rattle.shift_text.proofs.FirstWrong.{Names, Reader, chosen, ended_names, field, field_names, first_wrong, from_fields, names_same}
use Rattle.shift_text.proofs.Inverting.{at_field_ok, fields_tabs, first_some, one_byte_some}
use Rattle.shift_text.proofs.OneText.{by_letter_says, call_says, each_decimal, says_call}
use Rattle.shift_text.proofs.Spelling.{number_decimal}
use Rattle.shift_text.proofs.Splitting.{Whole, whole_decimal}
use Rattle.shift_text.specs.Fields.{Field, beside, fields, first, number, one_byte}
use Rattle.shift_text.specs.Lines.{at_field, book, by_letter, call, ended, withdraw}
use Rattle.shift_text.specs.Texts.{Read, Writable, letter, numbers, text}

-- the fields after each letter
zero_read : number (decimal 0) ≡ Some 0
zero_read = number_decimal 0 (omega arith)

book_names : Names 2 book
book_names =
    field_names 2 number _ (λ ticket.
    field_names 3 number _ (λ place.
    field_names 4 number _ (λ release.
    field_names 5 number _ (λ due.
    field_names 6 number _ (λ quarters. ended_names 7 (Book place (record { ticket = ticket; release = release; due = due; length = quarters })))
    (decimal 0) 0 zero_read)
    (decimal 0) 0 zero_read)
    (decimal 0) 0 zero_read)
    (decimal 0) 0 zero_read)
    (decimal 0) 0 zero_read

withdraw_names : Names 2 withdraw
withdraw_names = field_names 2 number _ (λ ticket. ended_names 3 (Withdraw ticket)) (decimal 0) 0 zero_read

-- the letters of calls
data Letter : Type 0 where
  books withdraws passes spoils : Letter

abbrev known : ℕ → Option Letter
known l =
    cond (eqb l 66) (Some books) (cond (eqb l 87) (Some withdraws) (cond (eqb l 80) (Some passes) (cond (eqb l 83) (Some spoils) None)))

abbrev lettered_by : Field → Option Letter
lettered_by [] = None
lettered_by (l ∷ []) = known l
lettered_by (l ∷ b ∷ bs) = None

abbrev after : Letter → Reader Call
after books fs = book fs
after withdraws fs = withdraw fs
after passes fs = ended 2 fs Pass
after spoils fs = ended 2 fs Spoil

after_names : (l : Letter) → Names 2 (after l)
after_names books = book_names
after_names withdraws = withdraw_names
after_names passes = ended_names 2 Pass
after_names spoils = ended_names 2 Spoil

by_known : (l : ℕ) (fs : List Field) → by_letter l fs ≡ at_field 1 (beside (known l) fs) after
by_known l fs =
    sym (chosen (eqb l 66) (Some books) _ fs after
    ∙ ap (cond (eqb l 66) (book fs)) (chosen (eqb l 87) (Some withdraws) _ fs after
    ∙ ap (cond (eqb l 87) (withdraw fs)) (chosen (eqb l 80) (Some passes) _ fs after
    ∙ ap (cond (eqb l 80) (ended 2 fs Pass)) (chosen (eqb l 83) (Some spoils) None fs after))))

by_fields : (fs : List Field) → from_fields by_letter fs ≡ field 1 lettered_by after fs
by_fields [] = refl
by_fields ([] ∷ fs) = refl
by_fields ((l ∷ []) ∷ fs) = by_known l fs
by_fields ((l ∷ b ∷ bs) ∷ fs) = refl

call_names : Names 1 (from_fields by_letter)
call_names = names_same 1 (from_fields by_letter) (field 1 lettered_by after) by_fields (field_names 1 lettered_by after after_names (80 ∷ []) passes refl)

-- the text of a call has its letter and its numbers as fields
letter_whole : (c : Call) → letter c ≡ 9 → ⊥
letter_whole (Book place job) e = omega arith
letter_whole (Withdraw ticket) e = omega arith
letter_whole Pass e = omega arith
letter_whole Spoil e = omega arith

text_fields : (c : Call) → Writable c → fields (text c) ≡ (letter c ∷ []) ∷ map decimal (numbers c)
text_fields c w = fields_tabs (letter c ∷ []) (map decimal (numbers c)) (letter_whole c, tt) (each_decimal Whole whole_decimal (numbers c) w)

-- fields that say a call are those of its text
said_fields : (gs : List Field) (c : Call) → from_fields by_letter gs ≡ Ok c → Writable c × (fields (text c) ≡ gs)
said_fields gs c e =
    let a = at_field_ok 1 (first one_byte gs) by_letter c e in
    let p = first_some one_byte a.0 gs a.1 a.2 in
    let s = by_letter_says a.0 a.1 c a.3 in
    let front : p.0 ≡ letter c ∷ [] = one_byte_some p.0 a.0 p.1 ∙ ap (λ l. l ∷ []) s.1 in
    (s.0, text_fields c s.0 ∙ sym (p.2 ∙ ap₂ (λ f hs. f ∷ hs) front s.2))

pub call_read : (line : List ℕ) (r : Result Call Refusal) → r ≡ call line → Read call Writable text line r
call_read line r e = record {
  one_text = λ c. (λ h. call_says line c (sym e ∙ h), λ w. e ∙ ap call w.1 ∙ says_call c w.0);
  first_wrong = λ few refusal h. first_wrong by_letter Writable text call_names said_fields says_call line few refusal (sym e ∙ h);
  cut = λ whole k. e ∙ call_kept line whole k;
}
