-- What `read_opening` promises: the opening of a first line, its one text, and the first field that is wrong.
use Rattle.std.proofs.Common.{◌≡◌, ℕ, cond, eqb, List, [], ◌∷◌, Some, None, Ok, decimal, Option, Result, sym, refl, ap, ◌∙◌, ap₂, inl, inr, arith}
use Rattle.calls.specs.declared.refusal.Refusal.{Refusal}
use Rattle.shift_text.proofs.Amounts.{amount_decimal}
use Rattle.shift_text.proofs.Cutting.{opening_kept}
use Rattle.shift_text.proofs.FirstWrong.{Names, Reader, chosen, ended_names, field, field_names, first_wrong, from_fields, names_same}
use Rattle.shift_text.proofs.Inverting.{at_field_ok, fields_tabs, first_some, one_byte_some}
use Rattle.shift_text.proofs.OneOpening.{opened_says, opening_says, says_opening, whole_amount, whole_letter}
use Rattle.shift_text.proofs.OneText.{choice}
use Rattle.shift_text.specs.declared.choice.FaultRule.{FaultRule}
use Rattle.shift_text.specs.declared.choice.FaultRule.TheVariants.{Both, Gap}
use Rattle.shift_text.specs.declared.choice.InspectionKind.TheVariants.{AtEnd}
use Rattle.shift_text.specs.declared.choice.Opening.{Opening}
use Rattle.shift_text.specs.Fields.{Field, beside, fields, first, one_byte}
use Rattle.shift_text.specs.Lines.{at_field, ended}
use Rattle.shift_text.specs.Openings.{amount, by_letter, inspection, opened, opening, rule, with_gap}
use Rattle.shift_text.specs.Texts.{Read, WritableOpening, count_of, gap_of, opening_fields, opening_text}

-- the rule of a count and of what a field says of the gap
abbrev with_amount : Option ℕ → Option (Option ℕ) → Option FaultRule
with_amount count None = None
with_amount count (Some gap) = rule count gap

abbrev gap_read : Option ℕ → Field → Option FaultRule
gap_read count f = with_amount count (amount f)

beside_gap : (count : Option ℕ) (o : Option (Option ℕ)) (fs : List Field) → with_gap count (beside o fs) ≡ beside (with_amount count o) fs
beside_gap count None fs = refl
beside_gap count (Some gap) fs = refl

first_gap : (count : Option ℕ) (fs : List Field) → with_gap count (first amount fs) ≡ first (gap_read count) fs
first_gap count [] = refl
first_gap count (f ∷ fs) = beside_gap count (amount f) fs

-- the fields after the count, the gap and the inspection
abbrev inspected : FaultRule → Reader Opening
inspected ruled fs = at_field 4 (first inspection fs) (λ kind five. ended 5 five (record { rule = ruled; inspection = kind }))

inspected_names : (ruled : FaultRule) → Names 4 (inspected ruled)
inspected_names ruled = field_names 4 inspection _ (λ kind. ended_names 5 (record { rule = ruled; inspection = kind })) (72 ∷ []) AtEnd refl

zero_gap : (count : Option ℕ) → amount (decimal 0) ≡ Some (Some 0) → Names 3 (field 3 (gap_read count) inspected)
zero_gap None e = field_names 3 (gap_read None) inspected inspected_names (decimal 0) (Gap 0) (ap (with_amount None) e)
zero_gap (Some k) e = field_names 3 (gap_read (Some k)) inspected inspected_names (decimal 0) (Both k 0) (ap (with_amount (Some k)) e)

zero_read : amount (decimal 0) ≡ Some (Some 0)
zero_read = amount_decimal 0 (omega arith)

same_after : {A X : Type 0} (i : ℕ) (o : Option (A × List Field)) (k l : A → Reader X) → ((a : A) (fs : List Field) → k a fs ≡ l a fs) → at_field i o k ≡ at_field i o l
same_after i None k l same = refl
same_after i (Some p) k l same = same p.0 p.1

opened_names : Names 2 opened
opened_names =
    names_same 2 opened (field 2 amount (λ count. field 3 (gap_read count) inspected))
    (λ fs. same_after 2 (first amount fs) _ _ (λ count three. ap (λ o. at_field 3 o inspected) (first_gap count three)))
    (field_names 2 amount (λ count. field 3 (gap_read count) inspected) (λ count. zero_gap count zero_read) (decimal 0) (Some 0) zero_read)

-- the letter O
abbrev opens : Field → Option (Unit {0})
opens [] = None
opens (l ∷ []) = cond (eqb l 79) (Some tt) None
opens (l ∷ b ∷ bs) = None

abbrev after : Unit {0} → Reader Opening
after _ fs = opened fs

by_fields : (fs : List Field) → from_fields by_letter fs ≡ field 1 opens after fs
by_fields [] = refl
by_fields ([] ∷ fs) = refl
by_fields ((l ∷ []) ∷ fs) = sym (chosen (eqb l 79) (Some tt) None fs after)
by_fields ((l ∷ b ∷ bs) ∷ fs) = refl

opening_names : Names 1 (from_fields by_letter)
opening_names = names_same 1 (from_fields by_letter) (field 1 opens after) by_fields (field_names 1 opens after (λ _. opened_names) (79 ∷ []) tt refl)

-- the text of an opening has O and its fields as fields
text_fields : (o : Opening) → WritableOpening o → fields (opening_text o) ≡ (79 ∷ []) ∷ opening_fields o
text_fields o w =
    fields_tabs (79 ∷ []) (opening_fields o) (λ e. omega arith, tt)
    (whole_amount (count_of o.rule) w.0, (whole_amount (gap_of o.rule) w.1, (whole_letter o.inspection, tt)))

-- fields that say an opening are those of its text
said_fields : (gs : List Field) (o : Opening) → from_fields by_letter gs ≡ Ok o → WritableOpening o × (fields (opening_text o) ≡ gs)
said_fields gs o e =
    let a = at_field_ok 1 (first one_byte gs) by_letter o e in
    let p = first_some one_byte a.0 gs a.1 a.2 in
    elim (choice a.0 79 _ _ _ a.3) [
      | inl h ↦
          let s = opened_says a.1 o h.1 in
          let front : p.0 ≡ 79 ∷ [] = one_byte_some p.0 a.0 p.1 ∙ ap (λ l. l ∷ []) h.0 in
          (s.0, text_fields o s.0 ∙ sym (p.2 ∙ ap₂ (λ f hs. f ∷ hs) front s.1))
      | inr wrong ↦ absurd (grind arith)
    ]

pub opening_read : (line : List ℕ) (r : Result Opening Refusal) → r ≡ opening line → Read opening WritableOpening opening_text line r
opening_read line r e = record {
  one_text = λ o. (λ h. opening_says line o (sym e ∙ h), λ w. e ∙ ap opening w.1 ∙ says_opening o w.0);
  first_wrong = λ few refusal h. first_wrong by_letter WritableOpening opening_text opening_names said_fields says_opening line few refusal (sym e ∙ h);
  cut = λ whole k. e ∙ opening_kept line whole k;
}
