-- The field that a reader of fields names is the first up to which nothing that it takes begins so.
use Rattle.std.proofs.Common.{◌≡◌, ℕ, suc, ◌+◌, ◌≤◌, Bool, true, false, cond, leb, List, [], ◌∷◌, length, take, Some, None, Ok, Err, Option, Result, sym, refl, ap, ◌∙◌, subst, add-zero, add-one, arith}
use Rattle.calls.specs.declared.refusal.Refusal.{Refusal}
use Rattle.calls.specs.declared.refusal.Refusal.TheVariants.{Malformed}
use Rattle.shift_text.proofs.Inverting.{at_field_ok, first_some}
use Rattle.shift_text.specs.Fields.{Field, beside, fields, first, one_byte}
use Rattle.shift_text.specs.Lines.{at_field, ended, lettered}
use Rattle.shift_text.specs.Texts.{Begun}
use Rattle.std.proofs.lemmas.Bool.{cond-true, le-leb}
use Rattle.std.proofs.lemmas.Option.{none-some, same_Some}

-- a reader of the fields from field i on
abbrev pub Reader : Type 0 → Type 0
Reader X = List Field → Result X Refusal

-- It refuses fs at field i + k: something that it takes has the first k fields of fs, and nothing has one more.
pub record Wrong {X : Type 0} (i : ℕ) (next : Reader X) (fs : List Field) (r : Refusal) : Type 0 where
  pub more : ℕ
  pub is : r ≡ Malformed (i + more)
  pub fields : List Field
  pub value : X
  pub taken : next fields ≡ Ok value
  pub begins : take more fields ≡ take more fs
  pub never : (gs : List Field) (x : X) → next gs ≡ Ok x → take (suc more) gs ≡ take (suc more) fs → ⊥

-- It takes something, and refuses so.
pub record Names {X : Type 0} (i : ℕ) (next : Reader X) : Type 0 where
  pub fields : List Field
  pub value : X
  pub taken : next fields ≡ Ok value
  pub wrong : (fs : List Field) (r : Refusal) → next fs ≡ Err r → Wrong i next fs r

malformed_is : {X : Type 0} (i : ℕ) (r : Refusal) → ◌≡◌ {A = Result X Refusal} (Err (Malformed i)) (Err r) → r ≡ Malformed (i + 0)
malformed_is i r e = let is : Malformed i ≡ r = cc in sym is ∙ ap Malformed (sym (add-zero i))

pub ended_names : {X : Type 0} (i : ℕ) (x : X) → Names i (λ fs. ended i fs x)
ended_names {X} i x = record { fields = []; value = x; taken = refl; wrong = refuses }
  where
    refuses : (fs : List Field) (r : Refusal) → ended i fs x ≡ Err r → Wrong i (λ gs. ended i gs x) fs r
    refuses [] r e = absurd (grind arith)
    refuses (f ∷ fs) r e = record {
      more = 0;
      is = malformed_is {X = X} i r e;
      fields = [];
      value = x;
      taken = refl;
      begins = refl;
      never = beyond;
    }
      where
        beyond : (gs : List Field) (y : X) → ended i gs x ≡ Ok y → take 1 gs ≡ take 1 (f ∷ fs) → ⊥
        beyond [] y t b = grind arith
        beyond (g ∷ gs) y t b = grind arith

-- a reader that answers alike names alike
pub names_same : {X : Type 0} (i : ℕ) (next other : Reader X) → ((fs : List Field) → next fs ≡ other fs) → Names i other → Names i next
names_same i next other same names = record {
  fields = names.fields;
  value = names.value;
  taken = same names.fields ∙ names.taken;
  wrong = λ fs r e.
      let w = names.wrong fs r (sym (same fs) ∙ e) in record {
        more = w.more;
        is = w.is;
        fields = w.fields;
        value = w.value;
        taken = same w.fields ∙ w.taken;
        begins = w.begins;
        never = λ gs x t b. w.never gs x (sym (same gs) ∙ t) b;
      };
}

module _ {A X : Type 0} (i : ℕ) (read : Field → Option A) (next : A → Reader X) where
  abbrev pub field : Reader X
  field fs = at_field i (first read fs) next

  -- what it takes begins with a field that is read
  taken_first : (gs : List Field) (x : X) → field gs ≡ Ok x → (a : A) × (f : Field) × (hs : List Field) × (read f ≡ Some a) × (gs ≡ f ∷ hs) × (next a hs ≡ Ok x)
  taken_first gs x e =
      let o = at_field_ok i (first read gs) next x e in
      let p = first_some read o.0 gs o.1 o.2 in
      (o.0, p.0, o.1, p.1, p.2, o.3)

  read_field : (f : Field) (fs : List Field) (a : A) → read f ≡ Some a → field (f ∷ fs) ≡ next a fs
  read_field f fs a e = ap (λ o. at_field i (beside o fs) next) e

  -- the field is missing or wrong: nothing that is taken has it
  here : (fs : List Field) (r : Refusal) (gs : List Field) (x : X) → field gs ≡ Ok x → r ≡ Malformed (i + 0) →
      ((a : A) (f : Field) (hs : List Field) → read f ≡ Some a → take 1 (f ∷ hs) ≡ take 1 fs → ⊥) → Wrong i field fs r
  here fs r gs x ok is no_such = record {
    more = 0;
    is = is;
    fields = gs;
    value = x;
    taken = ok;
    begins = refl;
    never = λ hs y t b.
        let p = taken_first hs y t in no_such p.0 p.1 p.2 p.3 (ap (take 1) (sym p.4) ∙ b);
  }

  first_of : (f g : Field) (fs gs : List Field) → f ∷ fs ≡ g ∷ gs → (f ≡ g) × (fs ≡ gs)
  first_of f g fs gs e = (cc, cc)

  module _ (after : (a : A) → Names (suc i) (next a)) (f0 : Field) (a0 : A) (read0 : read f0 ≡ Some a0) where
    abbrev fields0 : List Field
    fields0 = f0 ∷ (after a0).fields

    taken0 : field fields0 ≡ Ok (after a0).value
    taken0 = read_field f0 (after a0).fields a0 read0 ∙ (after a0).taken

    -- the field is read, and a later one is wrong
    later : (f : Field) (fs : List Field) (r : Refusal) (a : A) → read f ≡ Some a → next a fs ≡ Err r → Wrong i field (f ∷ fs) r
    later f fs r a is e =
        let w = (after a).wrong fs r e in record {
          more = suc w.more;
          is = w.is ∙ ap Malformed (omega arith);
          fields = f ∷ w.fields;
          value = w.value;
          taken = read_field f w.fields a is ∙ w.taken;
          begins = ap (λ gs. f ∷ gs) w.begins;
          never = λ gs x t b.
              let p = taken_first gs x t in
              let q = first_of p.1 f (take (suc w.more) p.2) (take (suc w.more) fs) (ap (take (suc (suc w.more))) (sym p.4) ∙ b) in
              let same : p.0 ≡ a = (let e1 = p.3 in let e2 = ap read q.0 in same_Some p.0 a (sym e1 ∙ e2 ∙ is)) in
              w.never p.2 x (subst (λ v. next v p.2 ≡ Ok x) same p.5) q.1;
        }

    by_read : (f : Field) (fs : List Field) (r : Refusal) (o : Option A) → read f ≡ o → at_field i (beside o fs) next ≡ Err r → Wrong i field (f ∷ fs) r
    by_read f fs r None is e =
        here (f ∷ fs) r fields0 (after a0).value taken0 (malformed_is {X = X} i r e)
        (λ a g hs found b. none-some a (sym is ∙ ap read (sym (first_of g f [] [] b).0) ∙ found))
    by_read f fs r (Some a) is e = later f fs r a is e

    refuses : (fs : List Field) (r : Refusal) → field fs ≡ Err r → Wrong i field fs r
    refuses [] r e = here [] r fields0 (after a0).value taken0 (malformed_is {X = X} i r e) (λ a f hs found b. grind arith)
    refuses (f ∷ fs) r e = by_read f fs r (read f) refl e

    pub field_names : Names i field
    field_names = record { fields = fields0; value = (after a0).value; taken = taken0; wrong = refuses }

-- a choice of what is read is a choice of what follows
pub chosen : {A X : Type 0} (b : Bool) (o p : Option A) (fs : List Field) (next : A → Reader X) →
    at_field 1 (beside (cond b o p) fs) next ≡ cond b (at_field 1 (beside o fs) next) (at_field 1 (beside p fs) next)
chosen true o p fs next = refl
chosen false o p fs next = refl

-- A line by its letter and the fields after it.
module _ {X : Type 0} (by_letter : ℕ → Reader X) where
  abbrev pub from_fields : Reader X
  from_fields fs = at_field 1 (first one_byte fs) by_letter

  abbrev pub says : List ℕ → Result X Refusal
  says line = at_field 1 (lettered line) by_letter

  -- a line that is not too long says what its fields say
  within : (b : Bool) (o : Option (ℕ × List Field)) (x : X) → at_field 1 (cond b o None) by_letter ≡ Ok x → at_field 1 o by_letter ≡ Ok x
  within true o x e = e
  within false o x e = absurd (grind arith)

  short : (line : List ℕ) → length line ≤ 80 → says line ≡ from_fields (fields line)
  short line few =
      ap (λ o. at_field 1 o by_letter) (cond-true (leb (length line) 80) (first one_byte (fields line)) None (le-leb (length line) 80 few))

  pub first_wrong : (Fits : X → Type 0) (text_of : X → List ℕ) → Names 1 from_fields →
      ((gs : List Field) (x : X) → from_fields gs ≡ Ok x → Fits x × (fields (text_of x) ≡ gs)) → ((x : X) → Fits x → says (text_of x) ≡ Ok x) →
      (line : List ℕ) → length line ≤ 80 → (refusal : Refusal) → says line ≡ Err refusal →
      (n : ℕ) × (refusal ≡ Malformed (n + 1)) × Begun Fits text_of line n × (Begun Fits text_of line (n + 1) → ⊥)
  first_wrong Fits text_of names said_fields says_text line few refusal e =
      let w = names.wrong (fields line) refusal (sym (short line few) ∙ e) in
      let said = said_fields w.fields w.value w.taken in (
        w.more,
        w.is ∙ ap Malformed (omega arith),
        (w.value, said.0, ap (take w.more) said.1 ∙ w.begins),
        λ (x, fits, same).
            w.never (fields (text_of x)) x (within (leb (length (text_of x)) 80) (first one_byte (fields (text_of x))) x (says_text x fits))
            (ap (λ n. take n (fields (text_of x))) (sym (add-one w.more)) ∙ same ∙ ap (λ n. take n (fields line)) (add-one w.more)),
      )
