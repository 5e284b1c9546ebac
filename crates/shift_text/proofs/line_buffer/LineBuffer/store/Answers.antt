use Rattle.std.proofs.Common.{arith, length-take}
use Rattle.shift_text.proofs.Keeping.{behind_stored, not_stored, stored}
use Rattle.shift_text.proofs.line_buffer.LineBuffer.store.Goals as goal
use Rattle.std.specs.Prelude.{take}

pub returns-then-self-lt-KEPT-clause-kept : goal.returns-then-self-lt-KEPT-clause-kept
returns-then-self-lt-KEPT-clause-kept c =
    let line = c.args.self.now in
    stored line.bytes line.used c.args.byte line.room c.if-self-lt-KEPT.true

pub returns-then-self-lt-KEPT-clause-beyond : goal.returns-then-self-lt-KEPT-clause-beyond
returns-then-self-lt-KEPT-clause-beyond c =
    let line = c.args.self.now in
    behind_stored line.bytes line.used c.args.byte

pub returns-else-self-lt-KEPT-clause-kept : goal.returns-else-self-lt-KEPT-clause-kept
returns-else-self-lt-KEPT-clause-kept c =
    let line = c.args.self.now in
    let front = length-take line.used line.bytes in
    not_stored (take line.used line.bytes) c.args.byte (omega (arith, front, line.room, line.within, c.if-self-lt-KEPT.false))
