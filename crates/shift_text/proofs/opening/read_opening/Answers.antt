use Rattle.std.proofs.Common.{rules}
use Rattle.shift_text.proofs.OpeningRead.{opening_read}
use Rattle.shift_text.proofs.opening.read_opening.Goals as goal

pub returns-clause-text : goal.returns-clause-text
returns-clause-text c = opening_read _ _ (search rules)
