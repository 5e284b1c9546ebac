use Rattle.shift_text.proofs.Keeping.{goes_on}
use Rattle.shift_text.proofs.line_buffer.LineBuffer.push.Goals as goal

pub returns-clause-goes_on : goal.returns-clause-goes_on
returns-clause-goes_on c = goes_on _ _ _ c.store.ensures.kept
