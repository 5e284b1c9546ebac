-- A number is no hyphen.
use Rattle.std.proofs.Common.{◌≡◌, ℕ, ◌<◌, true, false, List, [], ◌∷◌, Some, None, decimal, refl, ap, ◌∙◌, arith}
use Rattle.shift_text.proofs.Inverting.{number_some}
use Rattle.shift_text.proofs.Spelling.{number_decimal, own}
use Rattle.shift_text.specs.Fields.{Field, beside, first, number}
use Rattle.shift_text.specs.Openings.{amount, hyphen}
use Rattle.std.proofs.lemmas.Fmt.{digits_decimal}
use Rattle.std.proofs.lemmas.Bool.{cond-false}
use Rattle.std.proofs.lemmas.Bool.Decides.{nat_tests}
use Rattle.std.specs.Option.{option_map}
use Rattle.std.specs.Str.{all_ascii_digits}

digits_no_hyphen : (f : Field) → all_ascii_digits f ≡ true → hyphen f ≡ false
digits_no_hyphen [] h = refl
digits_no_hyphen (b ∷ []) h = grind (arith, nat_tests)
digits_no_hyphen (b ∷ c ∷ bs) h = refl

pub amount_decimal : (n : ℕ) → n < 100000 → amount (decimal n) ≡ Some (Some n)
amount_decimal n small =
    cond-false (hyphen (decimal n)) (Some None) (option_map Some (number (decimal n))) (digits_no_hyphen (decimal n) (digits_decimal own n (omega arith)))
    ∙ ap (option_map Some) (number_decimal n small)

pub amount_number : (fs gs : List Field) (n : ℕ) → first number fs ≡ Some (n, gs) → first amount fs ≡ Some (Some n, gs)
amount_number fs gs n e =
    let s = number_some n fs gs e in
    ap (first amount) s.1 ∙ ap (λ o. beside o gs) (amount_decimal n s.0)
