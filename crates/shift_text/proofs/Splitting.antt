-- The fields of a line that begins with a number.
use Rattle.std.proofs.Common.{◌≡◌, ℕ, ◌+◌, ◌-◌, ◌^◌, ◌<◌, ◌≤◌, true, false, List, [], ◌∷◌, ◌++◌, length, get_or, take, drop, Some, None, decimal, Option, sym, refl, ap, ◌∙◌, inl, inr, ⊎_elim, append-nil, arith, length-append}
use Rattle.std.proofs.lemmas.Fmt.{decimal_digit, digits_decimal, length-decimal-le, digits_value-decimal}
use Rattle.std.proofs.lemmas.Str.Parse.{digits_value_short}
use Rattle.std.proofs.lemmas.Bool.{and_parts, cases_eq, cases_lt, ne_eqb}
use Rattle.std.proofs.lemmas.Bool.Decides.{nat_tests}
use Rattle.std.proofs.lemmas.List.{take_rest}
use Rattle.std.specs.List.{AllByRecursion}
use Rattle.std.specs.Str.{all_ascii_digits}
use Rattle.std.specs.Char.{is_ascii_digit}
use Rattle.shift_text.specs.Fields.{Field, beside, fields, first, left, number, onto}
use Rattle.shift_text.specs.Numbers.{Begins, Digit, Longest, NoDigit}
use Rattle.shift_text.proofs.Spelling.{decimal_number, leads, number_decimal, own}

-- no byte is a tab
abbrev pub Whole : List ℕ → Type 0
Whole f = AllByRecursion (λ b. b ≡ 9 → ⊥) f

pub fields_byte : (b : ℕ) (bs : List ℕ) → (b ≡ 9 → ⊥) → fields (b ∷ bs) ≡ onto b (fields bs)
fields_byte b bs ne = simp (ne_eqb b 9 ne)

-- a field, and then the fields behind the next tab
pub fields_more : (f bs : List ℕ) → Whole f → fields (f ++ (9 ∷ bs)) ≡ f ∷ fields bs
fields_more [] bs w = refl
fields_more (b ∷ f) bs w = fields_byte b (f ++ (9 ∷ bs)) w.0 ∙ ap (onto b) (fields_more f bs w.1)

-- a field alone
pub fields_alone : (f : List ℕ) → Whole f → fields f ≡ f ∷ []
fields_alone [] w = refl
fields_alone (b ∷ f) w = fields_byte b f w.0 ∙ ap (onto b) (fields_alone f w.1)

-- the first field of a line, and the fields after it
pub record Cut (bs : List ℕ) : Type 0 where
  pub head : Field
  pub rest : List Field
  pub is : fields bs ≡ head ∷ rest

-- a byte in front of a line stands in front of its first field
abbrev cut_byte : (b : ℕ) (bs : List ℕ) → (b ≡ 9 → ⊥) → Cut bs → Cut (b ∷ bs)
cut_byte b bs ne c = record { head = b ∷ c.head; rest = c.rest; is = fields_byte b bs ne ∙ ap (onto b) c.is }

pub cut : (bs : List ℕ) → Cut bs
cut [] = record { head = []; rest = []; is = refl }
cut (b ∷ bs) =
    elim (cases_eq b 9) [ inl e ↦ record { head = []; rest = fields bs; is = simp e } | inr ne ↦ cut_byte b bs ne (cut bs) ]

-- the first field of a line that begins with whole bytes begins with them
head_begins : (f bs : List ℕ) → Whole f → (c : Cut bs) → fields (f ++ bs) ≡ (f ++ c.head) ∷ c.rest
head_begins [] bs w c = c.is
head_begins (b ∷ f) bs w c = fields_byte b (f ++ bs) w.0 ∙ ap (onto b) (head_begins f bs w.1 c)

digits_whole : (ds : List ℕ) → all_ascii_digits ds ≡ true → Whole ds
digits_whole [] h = tt
digits_whole (d ∷ ds) h =
    let p = and_parts (is_ascii_digit d) (all_ascii_digits ds) h in (λ e. grind (arith, nat_tests), digits_whole ds p.1)

pub whole_decimal : (n : ℕ) → n < 100000 → Whole (decimal n)
whole_decimal n small = digits_whole (decimal n) (digits_decimal own n (omega arith))

-- how a line's first field is no number
none_alone : number [] ≡ None
unfolding number
none_alone = refl

none_front : (b : ℕ) (f : Field) → (Digit b → ⊥) → number (b ∷ f) ≡ None
unfolding number
none_front b f no_digit = let e : is_ascii_digit b ≡ false = grind (arith, nat_tests) in simp e

first_none : (bs : List ℕ) (f : Field) (fs : List Field) → fields bs ≡ f ∷ fs → number f ≡ None → first number (fields bs) ≡ None
first_none bs f fs e n = ap (first number) e ∙ ap (λ o. beside o fs) n

field_none : (bs : List ℕ) → NoDigit bs → first number (fields bs) ≡ None
field_none [] no_digit = first_none [] [] [] refl none_alone
field_none (b ∷ bs) no_digit =
    elim (cases_eq b 9) [
      | inl e ↦ first_none (b ∷ bs) [] (fields bs) (simp e) none_alone
      | inr ne ↦ let c = cut bs in first_none (b ∷ bs) (b ∷ c.head) c.rest (cut_byte b bs ne c).is (none_front b c.head no_digit)
    ]

all_back : (xs ys : List ℕ) → all_ascii_digits (xs ++ ys) ≡ true → all_ascii_digits ys ≡ true
all_back [] ys h = h
all_back (x ∷ xs) ys h = all_back xs ys (and_parts (is_ascii_digit x) (all_ascii_digits (xs ++ ys)) h).1

-- a number of 10000 or more has five digits
five : (v : ℕ) → v < 100000 → 10000 ≤ v → 5 ≤ length (decimal v)
five v small big =
    let wide : v < 2 ^ 64 = omega arith in
    ⊎_elim
    (λ (short : length (decimal v) < 5).
    let few = digits_value_short own (decimal v) 4 (digits_decimal own v wide) (omega arith) in
    let bad : ⊥ = omega (arith, few, digits_value-decimal own v wide) in
    absurd bad)
    (λ (long : 5 ≤ length (decimal v)). long)
    (cases_lt (length (decimal v)) 5)

-- nothing stands behind 0
zero_alone : (b n : ℕ) (f : Field) → n < 100000 → 48 ∷ (b ∷ f) ≡ decimal n → ⊥
zero_alone b n f under e =
    omega (arith, leads n under (sym (ap (λ ds. get_or ds 0 0) e)), ap length e)

-- no number is the longest number that it begins with and more
overlong : (v b n : ℕ) (f : Field) → v < 100000 → (0 < v → v < 10000 → Digit b → ⊥) → n < 100000 → decimal v ++ (b ∷ f) ≡ decimal n → ⊥
overlong v b n f small ends under e =
    let wide : v < 2 ^ 64 = omega arith in
    let digits = digits_decimal own n (omega arith) in
    let back = all_back (decimal v) (b ∷ f) (rw e digits) in
    let digit : Digit b = (grind (arith, nat_tests), grind (arith, nat_tests)) in
    let few = length-decimal-le 5 n (omega arith) (omega arith) (omega arith) in
    let long : length (decimal n) ≡ length (decimal v) + length (b ∷ f) = sym (ap length e) ∙ length-append (decimal v) (b ∷ f) in
    ⊎_elim
    (λ (pos : 0 < v).
    ⊎_elim
    (λ (short : v < 10000). ends pos short digit)
    (λ (big : 10000 ≤ v). let bad : ⊥ = omega (arith, five v small big) in bad)
    (cases_lt v 10000))
    (λ (none : v ≤ 0).
    let zero : v ≡ 0 = omega arith in
    let spelt : 48 ∷ [] ≡ decimal v = sym (ap decimal zero ∙ decimal_digit 0 (omega arith)) in
    zero_alone b n f under (ap (λ ds. ds ++ (b ∷ f)) spelt ∙ e))
    (cases_lt 0 v)

some_none : (o : Option ℕ) → ((n : ℕ) → o ≡ Some n → ⊥) → o ≡ None
some_none None h = refl
some_none (Some n) h = absurd (h n refl)

-- a field that goes on behind its longest number is wrong
field_wrong : (v b : ℕ) (bs : List ℕ) → v < 100000 → (b ≡ 9 → ⊥) → (0 < v → v < 10000 → NoDigit (b ∷ bs)) → first number (fields (decimal v ++ (b ∷ bs))) ≡ None
field_wrong v b bs small ne ends =
    let c = cut bs in
    let f = decimal v ++ (b ∷ c.head) in
    first_none (decimal v ++ (b ∷ bs)) f c.rest (head_begins (decimal v) (b ∷ bs) (whole_decimal v small) (cut_byte b bs ne c))
    (some_none (number f) (λ n e. let d = decimal_number f n e in overlong v b n c.head small ends d.0 d.1))

-- a field that ends with the line, and one that ends at a tab
field_last : (v : ℕ) → v < 100000 → first number (fields (decimal v)) ≡ Some (v, left None)
field_last v small =
    ap (first number) (fields_alone (decimal v) (whole_decimal v small)) ∙ ap (λ o. beside o []) (number_decimal v small)

field_more : (v : ℕ) (bs : List ℕ) → v < 100000 → first number (fields (decimal v ++ (9 ∷ bs))) ≡ Some (v, left (Some bs))
field_more v bs small =
    ap (first number) (fields_more (decimal v) bs (whole_decimal v small)) ∙ ap (λ o. beside o (fields bs)) (number_decimal v small)

begins_last : (bs rest : List ℕ) (v : ℕ) → Begins bs v rest → length rest < 1 → first number (fields bs) ≡ Some (v, left None)
begins_last bs [] v b none = rw (b.whole, append-nil) (field_last v b.small)
begins_last bs (r ∷ rest) v b none = absurd (omega arith)

begins_tab : (bs rest : List ℕ) (v : ℕ) → Begins bs v rest → 1 ≤ length rest → get_or rest 0 0 ≡ 9 → first number (fields bs) ≡ Some (v, left (Some (take (length rest - 1) (drop 1 rest))))
begins_tab bs [] v b some tab = absurd (omega arith)
begins_tab bs (r ∷ rest) v b some tab = rw (take_rest (r ∷ rest) 1, b.whole, tab) (field_more v rest b.small)

begins_wrong : (bs rest : List ℕ) (v : ℕ) → Begins bs v rest → 1 ≤ length rest → (get_or rest 0 0 ≡ 9 → ⊥) → first number (fields bs) ≡ None
begins_wrong bs [] v b some ne = absurd (omega arith)
begins_wrong bs (r ∷ rest) v b some ne = rw b.whole (field_wrong v r rest b.small ne b.ends)

-- The same of the longest number that a line begins with.
module _ (bs rest : List ℕ) (v : ℕ) (longest : Longest bs v rest) where
  pub longest_none : v ≡ 100000 → first number (fields bs) ≡ None
  longest_none e =
      elim longest [ inl b ↦ let bad : ⊥ = omega (arith, b.small) in absurd bad | inr none ↦ field_none bs none.2 ]

  begins : (v ≡ 100000 → ⊥) → Begins bs v rest
  begins ne = elim longest [ inl b ↦ b | inr none ↦ absurd (ne none.0) ]

  pub longest_last : (v ≡ 100000 → ⊥) → length rest < 1 → first number (fields bs) ≡ Some (v, left None)
  longest_last ne = begins_last bs rest v (begins ne)

  pub longest_tab : (v ≡ 100000 → ⊥) → 1 ≤ length rest → get_or rest 0 0 ≡ 9 → first number (fields bs) ≡ Some (v, left (Some (take (length rest - 1) (drop 1 rest))))
  longest_tab ne = begins_tab bs rest v (begins ne)

  pub longest_wrong : (v ≡ 100000 → ⊥) → 1 ≤ length rest → (get_or rest 0 0 ≡ 9 → ⊥) → first number (fields bs) ≡ None
  longest_wrong ne = begins_wrong bs rest v (begins ne)

-- a line's first field, by the longest number that it begins with and the bytes after it
pub ruleset by_longest = (longest_none, longest_last, longest_tab, longest_wrong)
