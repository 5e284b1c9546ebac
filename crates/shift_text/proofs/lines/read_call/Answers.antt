use Rattle.std.proofs.Common.{rules}
use Rattle.shift_text.proofs.CallRead.{call_read}
use Rattle.shift_text.proofs.lines.read_call.Goals as goal

pub returns-in_ok-length-in-B-clause-text : goal.returns-in_ok-length-in-B-clause-text
returns-in_ok-length-in-B-clause-text c = call_read _ _ (search rules)

pub returns-in_default-clause-text : goal.returns-in_default-clause-text
returns-in_default-clause-text c = call_read _ _ (search rules)
