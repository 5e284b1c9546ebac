-- Calls and openings as text: each has one line that says it.
use Rattle.std.specs.Prelude.{◌≡◌, ℕ, ◌+◌, ◌<◌, ◌≤◌, ◌↔◌, List, [], ◌∷◌, ◌++◌, map, length, take, Some, None, Ok, Err, decimal, Option, Result}
use Rattle.std.specs.List.{AllByRecursion}
use Rattle.calls.specs.declared.call.Call.{Call}
use Rattle.calls.specs.declared.call.Call.TheVariants.{Book, Pass, Spoil, Withdraw}
use Rattle.calls.specs.declared.refusal.Refusal.{Refusal}
use Rattle.calls.specs.declared.refusal.Refusal.TheVariants.{Malformed}
use Rattle.shift_text.specs.declared.choice.FaultRule.{FaultRule}
use Rattle.shift_text.specs.declared.choice.FaultRule.TheVariants.{Both, Count, Gap}
use Rattle.shift_text.specs.declared.choice.InspectionKind.{InspectionKind}
use Rattle.shift_text.specs.declared.choice.InspectionKind.TheVariants.{AtEnd, AtFault}
use Rattle.shift_text.specs.declared.choice.Opening.{Opening}
use Rattle.shift_text.specs.Fields.{Field, fields}
use Rattle.shift_text.specs.Lines.{kept}

-- each field with a tab before it
abbrev pub tabs : List Field → List ℕ
tabs [] = []
tabs (f ∷ fs) = 9 ∷ (f ++ tabs fs)

-- a letter, and fields with tabs before them
abbrev pub line_of : ℕ → List Field → List ℕ
line_of letter fs = letter ∷ tabs fs

-- the letter of a call: B, W, P or S
abbrev pub letter : Call → ℕ
letter (Book place job) = 66
letter (Withdraw ticket) = 87
letter Pass = 80
letter Spoil = 83

-- its numbers
abbrev pub numbers : Call → List ℕ
numbers (Book place job) = job.ticket ∷ place ∷ job.release ∷ job.due ∷ job.length ∷ []
numbers (Withdraw ticket) = ticket ∷ []
numbers Pass = []
numbers Spoil = []

-- the line that writes a call: its letter, and its numbers in decimal digits
abbrev pub text : Call → List ℕ
text c = line_of (letter c) (map decimal (numbers c))

-- the numbers of the call have at most five digits
abbrev pub Writable : Call → Type 0
Writable c = AllByRecursion (λ n. n < 100000) (numbers c)

-- a number in decimal digits, or a hyphen where it is absent
abbrev pub amount_text : Option ℕ → Field
amount_text None = 45 ∷ []
amount_text (Some n) = decimal n

-- a number that is there has at most five digits
abbrev pub ShortAmount : Option ℕ → Type 0
ShortAmount None = Unit {0}
ShortAmount (Some n) = n < 100000

-- the count of a rule
abbrev pub count_of : FaultRule → Option ℕ
count_of (Count count) = Some count
count_of (Gap gap) = None
count_of (Both count gap) = Some count

-- the gap of a rule
abbrev pub gap_of : FaultRule → Option ℕ
gap_of (Count count) = None
gap_of (Gap gap) = Some gap
gap_of (Both count gap) = Some gap

-- H at the end, E at the fault
abbrev pub letter_of : InspectionKind → ℕ
letter_of AtEnd = 72
letter_of AtFault = 69

-- the fields of an opening after its letter: its count, its gap and its inspection
abbrev pub opening_fields : Opening → List Field
opening_fields o = amount_text (count_of o.rule) ∷ amount_text (gap_of o.rule) ∷ (letter_of o.inspection ∷ []) ∷ []

-- the line that writes an opening: O and its fields
abbrev pub opening_text : Opening → List ℕ
opening_text o = line_of 79 (opening_fields o)

-- the numbers of the opening have at most five digits
abbrev pub WritableOpening : Opening → Type 0
WritableOpening o = ShortAmount (count_of o.rule) × ShortAmount (gap_of o.rule)

-- some text has the same first n fields as the line, and where the line has fewer, has no more
abbrev pub Begun : {X : Type 0} → (X → Type 0) → (X → List ℕ) → List ℕ → ℕ → Type 0
Begun {X} Fits text_of line n = (x : X) × Fits x × (take n (fields (text_of x)) ≡ take n (fields line))

-- The answer r to a line, where `says` is what a line says, and x can be written if Fits x, as the line text_of x.
pub record Read {X : Type 0} (says : List ℕ → Result X Refusal) (Fits : X → Type 0) (text_of : X → List ℕ) (line : List ℕ) (r : Result X Refusal) : Type 0 where
  -- it is x just where x can be written and the line is its text: no other line says x
  pub one_text : (x : X) → (r ≡ Ok x) ↔ (Fits x × (line ≡ text_of x))
  -- of a line that is not too long it names the first field up to which no text begins as the line does
  pub first_wrong : length line ≤ 80 → (refusal : Refusal) → r ≡ Err refusal →
      (n : ℕ) × (refusal ≡ Malformed (n + 1)) × Begun Fits text_of line n × (Begun Fits text_of line (n + 1) → ⊥)
  -- it is what every line says of which just these bytes were kept
  pub cut : (whole : List ℕ) → line ≡ kept whole → r ≡ says whole
