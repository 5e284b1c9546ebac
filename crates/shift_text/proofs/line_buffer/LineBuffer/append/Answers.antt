use Rattle.std.proofs.Common.{arith, below_more, length-drop, refl, rules}
use Rattle.shift_text.proofs.Keeping.{behind_placed, placed}
use Rattle.shift_text.proofs.line_buffer.LineBuffer.append.Goals as goal

pub loop-place-preserved : goal.loop-place-preserved
loop-place-preserved c =
    let i = c.loop-place.place in
    let line = c.args.self.now in
    let behind = length-drop line.used line.bytes in (
      below_more _ _ c.loop-place.invariant.0 c.if-byte-eq10.false,
      search rules,
      placed _ _ c.args.bytes.now _ i _ c.loop-place.invariant.1 (omega (arith, behind, c.requires, c.loop-place-test.true, line.room)) c.loop-place-test.true refl c.loop-place.invariant.2,
      behind_placed _ _ _ i _ c.loop-place.invariant.3,
    )
