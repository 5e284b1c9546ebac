-- A first line says an opening just where it is the opening's text.
use Rattle.std.proofs.Common.{◌≡◌, ℕ, Bool, true, false, cond, List, [], ◌∷◌, Some, None, Ok, Option, refl, ap, ◌∙◌, subst, ap₂, inl, inr, arith}
use Rattle.std.proofs.lemmas.Bool.{eqb-true}
use Rattle.std.specs.Option.{option_map}
use Rattle.std.specs.List.{AllByRecursion}
use Rattle.shift_text.specs.declared.choice.FaultRule.{FaultRule}
use Rattle.shift_text.specs.declared.choice.FaultRule.TheVariants.{Both, Count, Gap}
use Rattle.shift_text.specs.declared.choice.InspectionKind.{InspectionKind}
use Rattle.shift_text.specs.declared.choice.InspectionKind.TheVariants.{AtEnd, AtFault}
use Rattle.shift_text.specs.declared.choice.Opening.{Opening}
use Rattle.shift_text.specs.Fields.{Field, beside, first, number}
use Rattle.shift_text.specs.Lines.{at_field, lettered}
use Rattle.shift_text.specs.Openings.{by_letter as opening_by_letter, amount, hyphen, inspection, kind, opened, opening, rule, with_gap}
use Rattle.shift_text.specs.Texts.{opening_fields, ShortAmount, WritableOpening, amount_text, count_of, gap_of, letter_of, line_of, opening_text}
use Rattle.shift_text.proofs.Amounts.{amount_decimal}
use Rattle.shift_text.proofs.Inverting.{at_field_ok, beside_some, ended_ok, first_some, lettered_some, some_lettered}
use Rattle.shift_text.proofs.OneText.{choice, length_tabs, short_decimal, Short}
use Rattle.shift_text.proofs.Spelling.{decimal_number}
use Rattle.shift_text.proofs.Splitting.{Whole, whole_decimal}

hyphen_is : (f : Field) → hyphen f ≡ true → f ≡ 45 ∷ []
hyphen_is [] h = absurd (grind arith)
hyphen_is (b ∷ []) h = ap (λ c. c ∷ []) (eqb-true b 45 h)
hyphen_is (b ∷ c ∷ bs) h = absurd (grind arith)

mapped_some : (o : Option ℕ) (a : Option ℕ) → option_map Some o ≡ Some a → (n : ℕ) × (o ≡ Some n) × (Some n ≡ a)
mapped_some None a e = absurd (grind arith)
mapped_some (Some n) a e = (n, refl, cc)

amount_cases : (b : Bool) (f : Field) (a : Option ℕ) → hyphen f ≡ b → cond b (Some None) (option_map Some (number f)) ≡ Some a → ShortAmount a × (f ≡ amount_text a)
amount_cases true f a h e = let none : None ≡ a = cc in subst (λ a. ShortAmount a × (f ≡ amount_text a)) none (tt, hyphen_is f h)
amount_cases false f a h e =
    let m = mapped_some (number f) a e in
    subst (λ a. ShortAmount a × (f ≡ amount_text a)) m.2 (decimal_number f m.0 m.1)

-- an amount that was read
amount_some : (a : Option ℕ) (fs gs : List Field) → first amount fs ≡ Some (a, gs) → ShortAmount a × (fs ≡ amount_text a ∷ gs)
amount_some a fs gs e =
    let p = first_some amount a fs gs e in
    let c = amount_cases (hyphen p.0) p.0 a refl p.1 in
    (c.0, p.2 ∙ ap (λ f. f ∷ gs) c.1)

-- an amount that is read
some_amount : (a : Option ℕ) (gs : List Field) → ShortAmount a → first amount (amount_text a ∷ gs) ≡ Some (a, gs)
some_amount None gs s = refl
some_amount (Some n) gs s = ap (λ o. beside o gs) (amount_decimal n s)

inspection_is : (f : Field) (k : InspectionKind) → inspection f ≡ Some k → f ≡ letter_of k ∷ []
inspection_is [] k e = absurd (grind arith)
inspection_is (l ∷ []) k e =
    elim (choice l 72 _ _ _ e) [
      | inl h ↦ let at_end : AtEnd ≡ k = (let e = h.1 in cc) in rw h.0 (ap (λ k. letter_of k ∷ []) at_end)
      | inr e ↦ elim (choice l 69 _ _ _ e) [
        | inl h ↦ let at_fault : AtFault ≡ k = (let e = h.1 in cc) in rw h.0 (ap (λ k. letter_of k ∷ []) at_fault)
        | inr e ↦ absurd (grind arith)
      ]
    ]
inspection_is (l ∷ m ∷ ls) k e = absurd (grind arith)

inspection_some : (k : InspectionKind) (fs gs : List Field) → first inspection fs ≡ Some (k, gs) → fs ≡ (letter_of k ∷ []) ∷ gs
inspection_some k fs gs e =
    let p = first_some inspection k fs gs e in p.2 ∙ ap (λ f. f ∷ gs) (inspection_is p.0 k p.1)

rule_is : (c g : Option ℕ) (r : FaultRule) → rule c g ≡ Some r → (c ≡ count_of r) × (g ≡ gap_of r)
rule_is None None r e = absurd (grind arith)
rule_is None (Some g) r e = let is : Gap g ≡ r = cc in (ap count_of is, ap gap_of is)
rule_is (Some c) None r e = let is : Count c ≡ r = cc in (ap count_of is, ap gap_of is)
rule_is (Some c) (Some g) r e = let is : Both c g ≡ r = cc in (ap count_of is, ap gap_of is)

with_gap_some : (c : Option ℕ) (o : Option (Option ℕ × List Field)) (r : FaultRule) (fs : List Field) → with_gap c o ≡ Some (r, fs) → (g : Option ℕ) × (o ≡ Some (g, fs)) × (rule c g ≡ Some r)
with_gap_some c None r fs e = absurd (grind arith)
with_gap_some c (Some p) r fs e = let b = beside_some (rule c p.0) r p.1 fs e in (p.0, ap (λ gs. Some (p.0, gs)) b.1, b.0)

abbrev Says : List Field → Opening → Type 0
Says fs o = WritableOpening o × (fs ≡ opening_fields o)

together : (fs three four five : List Field) (c g : Option ℕ) (r : FaultRule) (k : InspectionKind) → ShortAmount c → fs ≡ amount_text c ∷ three →
    ShortAmount g → three ≡ amount_text g ∷ four → four ≡ (letter_of k ∷ []) ∷ five → five ≡ [] → c ≡ count_of r → g ≡ gap_of r →
    Says fs (record { rule = r; inspection = k })
together fs three four five c g r k sc two sg x y z cr gr =
    let all : fs ≡ amount_text (count_of r) ∷ amount_text (gap_of r) ∷ (letter_of k ∷ []) ∷ [] = cc in
    ((subst ShortAmount cr sc, subst ShortAmount gr sg), all)

pub opened_says : (fs : List Field) (o : Opening) → opened fs ≡ Ok o → Says fs o
opened_says fs o e =
    let c = at_field_ok 2 (first amount fs) _ o e in
    let r = at_field_ok 3 (with_gap c.0 (first amount c.1)) _ o c.3 in
    let i = at_field_ok 4 (first inspection r.1) _ o r.3 in
    let z = ended_ok 5 i.1 _ o i.3 in
    let w = with_gap_some c.0 (first amount c.1) r.0 r.1 r.2 in
    let rs = rule_is c.0 w.0 r.0 w.2 in
    let cs = amount_some c.0 fs c.1 c.2 in
    let gs = amount_some w.0 c.1 r.1 w.1 in
    let ks = inspection_some i.0 r.1 i.1 i.2 in
    subst (Says fs) z.1 (together _ _ _ _ _ _ _ _ cs.0 cs.1 gs.0 gs.1 ks z.0 rs.0 rs.1)

pub opening_says : (line : List ℕ) (o : Opening) → opening line ≡ Ok o → WritableOpening o × (line ≡ opening_text o)
opening_says line o e =
    let a = at_field_ok 1 (lettered line) _ o e in
    let is = lettered_some line a.0 a.1 a.2 in
    elim (choice a.0 79 _ _ _ a.3) [
      | inl h ↦ let s = opened_says a.1 o h.1 in (s.0, is ∙ ap₂ line_of h.0 s.1)
      | inr e ↦ absurd (grind arith)
    ]

-- The other way round.
pub whole_amount : (a : Option ℕ) → ShortAmount a → Whole (amount_text a)
whole_amount None s = (λ e. omega arith, tt)
whole_amount (Some n) s = whole_decimal n s

short_amount : (a : Option ℕ) → ShortAmount a → Short (amount_text a)
short_amount None s = omega arith
short_amount (Some n) s = short_decimal n s

pub whole_letter : (k : InspectionKind) → Whole (letter_of k ∷ [])
whole_letter AtEnd = (λ e. omega arith, tt)
whole_letter AtFault = (λ e. omega arith, tt)

rule_of : (r : FaultRule) → rule (count_of r) (gap_of r) ≡ Some r
rule_of (Count c) = refl
rule_of (Gap g) = refl
rule_of (Both c g) = refl

kind_of : (k : InspectionKind) → kind (letter_of k) ≡ Some k
kind_of AtEnd = refl
kind_of AtFault = refl

says_opened : (o : Opening) → WritableOpening o → opened (amount_text (count_of o.rule) ∷ amount_text (gap_of o.rule) ∷ (letter_of o.inspection ∷ []) ∷ []) ≡ Ok o
says_opened o (c, g) = simp (some_amount, rule_of, kind_of)

pub says_opening : (o : Opening) → WritableOpening o → opening (opening_text o) ≡ Ok o
says_opening o w =
    let fs = amount_text (count_of o.rule) ∷ amount_text (gap_of o.rule) ∷ (letter_of o.inspection ∷ []) ∷ [] in
    let long = length_tabs fs (short_amount (count_of o.rule) w.0, (short_amount (gap_of o.rule) w.1, (omega arith, tt))) in
    let wholes : AllByRecursion Whole fs = (whole_amount (count_of o.rule) w.0, (whole_amount (gap_of o.rule) w.1, (whole_letter o.inspection, tt))) in
    let read = some_lettered 79 fs (λ e. omega arith) wholes (omega arith) in
    ap (λ l. at_field 1 l opening_by_letter) read ∙ says_opened o w
