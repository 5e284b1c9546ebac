-- A line that is cut at 81 bytes says what the whole line says.
use Rattle.std.proofs.Common.{◌≡◌, ℕ, ◌<◌, leb, List, length, None, sym, ap, ◌∙◌, inl, inr, arith, length-take}
use Rattle.shift_text.specs.Fields.{fields, first, one_byte}
use Rattle.shift_text.specs.Lines.{at_field, by_letter, call, kept, lettered}
use Rattle.shift_text.specs.Openings.{by_letter as opening_by_letter, opening}
use Rattle.std.proofs.lemmas.List.{take_all}
use Rattle.std.proofs.lemmas.Bool.{cases_lt, cond-false, lt-leb}

too_long : (line : List ℕ) → 80 < length line → lettered line ≡ None
too_long line long = cond-false (leb (length line) 80) (first one_byte (fields line)) None (lt-leb (length line) 80 long)

lettered_kept : (line : List ℕ) → lettered (kept line) ≡ lettered line
lettered_kept line =
    elim (cases_lt 80 (length line)) [
      | inl long ↦ too_long (kept line) (omega (arith, length-take 81 line)) ∙ sym (too_long line long)
      | inr short ↦ ap lettered (take_all 81 line (omega arith))
    ]

pub call_kept : (bs line : List ℕ) → bs ≡ kept line → call bs ≡ call line
call_kept bs line e = ap call e ∙ ap (λ o. at_field 1 o by_letter) (lettered_kept line)

pub opening_kept : (bs line : List ℕ) → bs ≡ kept line → opening bs ≡ opening line
opening_kept bs line e =
    ap opening e ∙ ap (λ o. at_field 1 o opening_by_letter) (lettered_kept line)
