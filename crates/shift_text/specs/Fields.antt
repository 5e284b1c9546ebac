-- The fields of a line of text, and how one field is read.
use Rattle.std.specs.Prelude.{◌≡◌, ℕ, ◌+◌, ◌-◌, ◌*◌, Bool, cond, not, ◌&&◌, ◌||◌, List, [], ◌∷◌, length, Some, None, Option, ◌==◌, nat_le, slice_index}
use Rattle.std.specs.Option.{option_map}
use Rattle.std.specs.Str.{all_ascii_digits}

-- the bytes of one field
abbrev pub Field : Type 0
Field = List ℕ

-- the byte b in front of the first field
abbrev pub onto : ℕ → List Field → List Field
onto b [] = (b ∷ []) ∷ []
onto b (f ∷ fs) = (b ∷ f) ∷ fs

-- the fields of a line are parted by tabs
abbrev pub fields : List ℕ → List Field
fields [] = [] ∷ []
fields (b ∷ bs) = cond (b == 9) ([] ∷ fields bs) (onto b (fields bs))

-- the fields that are left of a line, of which nothing may be left
abbrev pub left : Option (List ℕ) → List Field
left None = []
left (Some bs) = fields bs

-- a number has one to five digits and no leading zero, except 0 itself
abbrev pub is_number : Field → Bool
is_number ds = all_ascii_digits ds && (nat_le 1 (length ds) && nat_le (length ds) 5) && (length ds == 1 || not (slice_index ds 0 == 48))

-- the value of the digits ds behind the digits of n
abbrev pub value_on : ℕ → List ℕ → ℕ
value_on n [] = n
value_on n (d ∷ ds) = value_on (10 * n + (d - 48)) ds

-- the number that a field writes
unfoldable pub number : Field → Option ℕ
number ds = cond (is_number ds) (Some (value_on 0 ds)) None

-- a field of one byte
abbrev pub one_byte : Field → Option ℕ
one_byte [] = None
one_byte (b ∷ []) = Some b
one_byte (b ∷ c ∷ bs) = None

-- what was read of a field, beside the fields after it
abbrev pub beside : {A : Type 0} → Option A → List Field → Option (A × List Field)
beside None fs = None
beside (Some a) fs = Some (a, fs)

-- what a reader of one field makes of the first, beside the fields after it; none where the field is missing or wrong
abbrev pub first : {A : Type 0} → (Field → Option A) → List Field → Option (A × List Field)
first read [] = None
first read (f ∷ fs) = beside (read f) fs

-- the answer r, whose rest of the line `bytes` tells, is what was read and the fields after it
abbrev pub Taken : {A B : Type 0} → (B → List ℕ) → Option (A × List Field) → Option (A × Option B) → Type 0
Taken bytes read None = read ≡ None
Taken bytes read (Some p) = read ≡ Some (p.0, left (option_map bytes p.1))

-- what is left of a line, and the number of the first of these fields
pub record Unread : Type 0 where
  pub fields : List Field
  pub next : ℕ
