-- Each number has one spelling: a field writes n just where n is below 100000 and the field is n's decimal digits.
use Rattle.std.proofs.Common.{◌≡◌, ℕ, ◌^◌, ◌<◌, ◌≤◌, true, length, get_or, Some, None, decimal, sym, ap, ◌∙◌, ⊎_elim, arith, rules}
use Rattle.std.proofs.lemmas.Fmt.{decimal_digit, decimal_nonempty, decimal-digits_value, digits_decimal, first_decimal, length-decimal-le, digits_value-decimal}
use Rattle.std.proofs.lemmas.Str.Parse.{IsNumeralModel, numerals_by_fold, digits_value_short}
use Rattle.std.proofs.lemmas.Bool.{cases_lt, cond-true}
use Rattle.std.proofs.lemmas.Bool.Decides.{nat_tests}
use Rattle.std.proofs.lemmas.Option.{cond_some}
use Rattle.std.specs.Str.{all_ascii_digits}
use Rattle.shift_text.specs.Fields.{Field, is_number, number, value_on}

pub own : IsNumeralModel (λ ds. all_ascii_digits ds ≡ true) (value_on 0)
own = numerals_by_fold _ (search rules) value_on (search rules)

-- the three parts of a number's spelling
parts : (ds : Field) → is_number ds ≡ true → (all_ascii_digits ds ≡ true) × (1 ≤ length ds) × (length ds ≤ 5) × (get_or ds 0 0 ≡ 48 → length ds ≡ 1)
parts ds h = (grind (arith, nat_tests), grind (arith, nat_tests), grind (arith, nat_tests), λ e. grind (arith, nat_tests))

digits_are_number : (ds : Field) → all_ascii_digits ds ≡ true → 1 ≤ length ds → length ds ≤ 5 → (get_or ds 0 0 ≡ 48 → length ds ≡ 1) → is_number ds ≡ true
digits_are_number ds d some few lead = grind (arith, nat_tests)

-- the first digit of a number is 0 in 0 alone
pub leads : (n : ℕ) → n < 100000 → get_or (decimal n) 0 0 ≡ 48 → length (decimal n) ≡ 1
leads n small e =
    ⊎_elim
    (λ (pos : 0 < n). let bad : ⊥ = omega (arith, first_decimal n pos (omega arith)) in absurd bad)
    (λ (none : n ≤ 0). let zero : n ≡ 0 = omega arith in rw (zero, decimal_digit 0 (omega arith)))
    (cases_lt 0 n)

pub number_decimal : (n : ℕ) → n < 100000 → number (decimal n) ≡ Some n
unfolding number
number_decimal n small =
    let big : n < 2 ^ 64 = omega arith in
    let digits = digits_decimal own n big in
    let spelt = digits_are_number (decimal n) digits (decimal_nonempty n big) (length-decimal-le 5 n (omega arith) (omega arith) big) (leads n small) in
    cond-true (is_number (decimal n)) (Some (value_on 0 (decimal n))) None spelt ∙ ap Some (digits_value-decimal own n big)

written : (ds : Field) (n : ℕ) → is_number ds ≡ true → value_on 0 ds ≡ n → (n < 100000) × (ds ≡ decimal n)
written ds n h e =
    let p = parts ds h in
    let short = digits_value_short own ds 5 p.0 p.2 in
    let small : value_on 0 ds < 100000 = omega (arith, short) in
    (omega arith, sym (decimal-digits_value own ds p.0 p.1 p.3 (omega arith)) ∙ ap decimal e)

pub decimal_number : (ds : Field) (n : ℕ) → number ds ≡ Some n → (n < 100000) × (ds ≡ decimal n)
unfolding number
decimal_number ds n e = let c = cond_some (is_number ds) (value_on 0 ds) n e in written ds n c.0 c.1
