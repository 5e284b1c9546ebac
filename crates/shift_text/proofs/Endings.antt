-- How many fields a line has: at least one, and at most one more than bytes.
use Rattle.std.proofs.Common.{◌≡◌, ℕ, ◌+◌, ◌≤◌, List, [], ◌∷◌, length, ap, inl, inr, arith}
use Rattle.std.proofs.lemmas.Bool.{cases_eq}
use Rattle.shift_text.proofs.Splitting.{cut, fields_byte}
use Rattle.shift_text.specs.Fields.{Field, fields, onto}
use Rattle.shift_text.specs.Lines.{ended, malformed}

-- a line that goes on has a field too many
pub ended_more : {X : Type 0} (i : ℕ) (bs : List ℕ) (x : X) → ended i (fields bs) x ≡ malformed i
ended_more i bs x = ap (λ fs. ended i fs x) (cut bs).is

length_onto : (b : ℕ) (fs : List Field) → length (onto b fs) ≤ length fs + 1
length_onto b [] = omega arith
length_onto b (f ∷ fs) = omega arith

pub length_fields : (bs : List ℕ) → length (fields bs) ≤ length bs + 1
length_fields [] = omega arith
length_fields (b ∷ bs) =
    elim (cases_eq b 9) [
      | inl e ↦ simp e (omega (arith, length_fields bs))
      | inr ne ↦ rw (fields_byte b bs ne) (omega (arith, length_onto b (fields bs), length_fields bs))
    ]
