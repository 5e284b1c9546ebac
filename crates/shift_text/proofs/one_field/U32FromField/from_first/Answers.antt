use Rattle.std.proofs.Common.{ap, ◌∙◌}
use Rattle.shift_text.proofs.Splitting.{longest_none}
use Rattle.shift_text.proofs.one_field.U32FromField.from_first.Goals as goal
use Rattle.shift_text.specs.Fields.{first, left, number}
use Rattle.std.specs.Option.{option_map}

pub returns-then-value-eq-NO_NUMBER : goal.returns-then-value-eq-NO_NUMBER
returns-then-value-eq-NO_NUMBER c =
    ap (λ o. first number (left (option_map (λ x. x.now) o))) c.in_ok-fields.was
    ∙ longest_none c.in_ok-fields.field-0.now _ _ c.number-value.ensures c.if-value-eq-NO_NUMBER.true
