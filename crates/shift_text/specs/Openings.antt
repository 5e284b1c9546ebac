-- What the first line of a shift says: the fault rule and the inspection, or the first field that is missing, wrong or too many.
use Rattle.std.specs.Prelude.{ℕ, Bool, false, cond, List, [], ◌∷◌, Some, None, Option, Result, ◌==◌}
use Rattle.std.specs.Option.{option_map}
use Rattle.calls.specs.declared.refusal.Refusal.{Refusal}
use Rattle.shift_text.specs.declared.choice.FaultRule.{FaultRule}
use Rattle.shift_text.specs.declared.choice.FaultRule.TheVariants.{Both, Count, Gap}
use Rattle.shift_text.specs.declared.choice.InspectionKind.{InspectionKind}
use Rattle.shift_text.specs.declared.choice.InspectionKind.TheVariants.{AtEnd, AtFault}
use Rattle.shift_text.specs.declared.choice.Opening.{Opening}
use Rattle.shift_text.specs.Fields.{Field, beside, first, number}
use Rattle.shift_text.specs.Lines.{at_field, ended, lettered, malformed}

-- a field that is a hyphen
abbrev pub hyphen : Field → Bool
hyphen [] = false
hyphen (b ∷ []) = b == 45
hyphen (b ∷ c ∷ bs) = false

-- a number, or a hyphen where that rule is absent
abbrev pub amount : Field → Option (Option ℕ)
amount f = cond (hyphen f) (Some None) (option_map Some (number f))

-- the rule of a count and a gap; none where both are absent
abbrev pub rule : Option ℕ → Option ℕ → Option FaultRule
rule None None = None
rule None (Some gap) = Some (Gap gap)
rule (Some count) None = Some (Count count)
rule (Some count) (Some gap) = Some (Both count gap)

-- the rule of a count and of the gap that was read
abbrev pub with_gap : Option ℕ → Option (Option ℕ × List Field) → Option (FaultRule × List Field)
with_gap count None = None
with_gap count (Some p) = beside (rule count p.0) p.1

-- the inspection that a letter names: H at the end, E at the fault
abbrev pub kind : ℕ → Option InspectionKind
kind letter = cond (letter == 72) (Some AtEnd) (cond (letter == 69) (Some AtFault) None)

-- the inspection that a field names: its letter alone
abbrev pub inspection : Field → Option InspectionKind
inspection [] = None
inspection (letter ∷ []) = kind letter
inspection (letter ∷ b ∷ bs) = None

-- count, gap and inspection
abbrev pub opened : List Field → Result Opening Refusal
opened two =
    at_field 2 (first amount two) (λ count three.
    at_field 3 (with_gap count (first amount three)) (λ ruled four.
    at_field 4 (first inspection four) (λ inspected five.
    ended 5 five (record { rule = ruled; inspection = inspected }))))

-- the letter is O
abbrev pub by_letter : ℕ → List Field → Result Opening Refusal
by_letter letter two = cond (letter == 79) (opened two) (malformed 1)

-- what the first line says
abbrev pub opening : List ℕ → Result Opening Refusal
opening line = at_field 1 (lettered line) by_letter
