-- What a line that says a call has in its fields.
use Rattle.std.proofs.Common.{◌≡◌, ℕ, ◌<◌, ◌≤◌, Bool, true, false, cond, leb, List, [], ◌∷◌, ◌++◌, length, Some, None, Ok, decimal, Option, Result, sym, refl, ap, ◌∙◌, inl, inr, append-nil, arith}
use Rattle.std.proofs.lemmas.Bool.{cases_eq, cond-true, le-leb}
use Rattle.std.proofs.lemmas.Option.{some_pair_parts}
use Rattle.std.specs.List.{AllByRecursion}
use Rattle.calls.specs.declared.refusal.Refusal.{Refusal}
use Rattle.shift_text.specs.Fields.{Field, beside, fields, first, number, one_byte, onto}
use Rattle.shift_text.specs.Lines.{at_field, ended, lettered}
use Rattle.shift_text.specs.Texts.{line_of, tabs}
use Rattle.shift_text.proofs.Spelling.{decimal_number, number_decimal}
use Rattle.shift_text.proofs.Splitting.{Whole, cut, fields_alone, fields_byte, fields_more}

-- a field that was read
pub at_field_ok : {A X : Type 0} (i : ℕ) (o : Option (A × List Field)) (next : A → List Field → Result X Refusal) (x : X) →
    at_field i o next ≡ Ok x → (a : A) × (fs : List Field) × (o ≡ Some (a, fs)) × (next a fs ≡ Ok x)
at_field_ok i None next x e = absurd (grind arith)
at_field_ok i (Some p) next x e = (p.0, p.1, refl, e)

pub ended_ok : {X : Type 0} (i : ℕ) (fs : List Field) (x y : X) → ended i fs x ≡ Ok y → (fs ≡ []) × (x ≡ y)
ended_ok i [] x y e = (refl, cc)
ended_ok i (f ∷ fs) x y e = absurd (grind arith)

pub beside_some : {A : Type 0} (o : Option A) (a : A) (fs gs : List Field) → beside o fs ≡ Some (a, gs) → (o ≡ Some a) × (fs ≡ gs)
beside_some None a fs gs e = absurd (grind arith)
beside_some (Some b) a fs gs e = let p = some_pair_parts b a fs gs e in (ap Some p.0, p.1)

-- the first field, by what was read of it
pub first_some : {A : Type 0} (read : Field → Option A) (a : A) (fs gs : List Field) → first read fs ≡ Some (a, gs) → (f : Field) × (read f ≡ Some a) × (fs ≡ f ∷ gs)
first_some read a [] gs e = absurd (grind arith)
first_some read a (f ∷ fs) gs e = let b = beside_some (read f) a fs gs e in (f, b.0, ap (λ hs. f ∷ hs) b.1)

-- a number that was read
pub number_some : (n : ℕ) (fs gs : List Field) → first number fs ≡ Some (n, gs) → (n < 100000) × (fs ≡ decimal n ∷ gs)
number_some n fs gs e =
    let p = first_some number n fs gs e in
    let d = decimal_number p.0 n p.1 in
    (d.0, p.2 ∙ ap (λ f. f ∷ gs) d.1)

-- a number that is read
pub some_number : (n : ℕ) (gs : List Field) → n < 100000 → first number (decimal n ∷ gs) ≡ Some (n, gs)
some_number n gs small = ap (λ o. beside o gs) (number_decimal n small)

pub one_byte_some : (f : Field) (b : ℕ) → one_byte f ≡ Some b → f ≡ b ∷ []
one_byte_some [] b e = absurd (grind arith)
one_byte_some (c ∷ []) b e = cc
one_byte_some (c ∷ d ∷ cs) b e = absurd (grind arith)

-- fields, with a tab between two
abbrev joined : List Field → List ℕ
joined [] = []
joined (f ∷ fs) = f ++ tabs fs

joined_onto : (b : ℕ) (fs : List Field) → joined (onto b fs) ≡ b ∷ joined fs
joined_onto b [] = refl
joined_onto b (f ∷ fs) = refl

joined_tab : (bs : List ℕ) → tabs (fields bs) ≡ 9 ∷ joined (fields bs)
joined_tab bs = let c = cut bs in rw c.is refl

-- the fields of a line, joined again, are the line
joined_fields : (bs : List ℕ) → joined (fields bs) ≡ bs
joined_fields [] = refl
joined_fields (b ∷ bs) =
    elim (cases_eq b 9) [
      | inl e ↦ rw e (joined_tab bs ∙ ap (λ cs. 9 ∷ cs) (joined_fields bs))
      | inr ne ↦ ap joined (fields_byte b bs ne) ∙ joined_onto b (fields bs) ∙ ap (λ cs. b ∷ cs) (joined_fields bs)
    ]

letter_first : (line : List ℕ) (l : ℕ) (fs : List Field) → first one_byte (fields line) ≡ Some (l, fs) → line ≡ line_of l fs
letter_first line l fs e =
    let p = first_some one_byte l (fields line) fs e in
    let f = one_byte_some p.0 l p.1 in
    sym (joined_fields line) ∙ ap joined (p.2 ∙ ap (λ g. g ∷ fs) f)

chosen : {A : Type 0} (b : Bool) (o : Option A) (a : A) → cond b o None ≡ Some a → o ≡ Some a
chosen true o a e = e
chosen false o a e = absurd (grind arith)

-- a line with a letter is that letter and its fields
pub lettered_some : (line : List ℕ) (l : ℕ) (fs : List Field) → lettered line ≡ Some (l, fs) → line ≡ line_of l fs
lettered_some line l fs e = letter_first line l fs (chosen (leb (length line) 80) (first one_byte (fields line)) (l, fs) e)

-- and the other way round, where it is short and no field has a tab
pub fields_tabs : (f : Field) (fs : List Field) → Whole f → AllByRecursion Whole fs → fields (f ++ tabs fs) ≡ f ∷ fs
fields_tabs f [] w ws = rw append-nil (fields_alone f w)
fields_tabs f (g ∷ fs) w ws = fields_more f (g ++ tabs fs) w ∙ ap (λ hs. f ∷ hs) (fields_tabs g fs ws.0 ws.1)

pub some_lettered : (l : ℕ) (fs : List Field) → (l ≡ 9 → ⊥) → AllByRecursion Whole fs → length (line_of l fs) ≤ 80 → lettered (line_of l fs) ≡ Some (l, fs)
some_lettered l fs ne ws short =
    cond-true (leb (length (line_of l fs)) 80) (first one_byte (fields (line_of l fs))) None (le-leb (length (line_of l fs)) 80 short)
    ∙ ap (first one_byte) (fields_tabs (l ∷ []) fs (ne, tt) ws)
