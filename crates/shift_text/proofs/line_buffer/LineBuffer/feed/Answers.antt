use Rattle.std.proofs.Common.{arith, length-drop, length-take, rules, ◌∙◌}
use Rattle.shift_text.proofs.Keeping.{behind_all, found_near, kept_all, kept_near, not_near}
use Rattle.shift_text.proofs.line_buffer.LineBuffer.feed.Goals as goal

pub returns-in-Some-clause-fed : goal.returns-in-Some-clause-fed
returns-in-Some-clause-fed c =
    let line = c.args.self.now in
    let front = length-take line.used line.bytes in
    found_near _ _ c.args.chunk.now c.min-room.result c.in-Some.place (omega (arith, front, line.room, line.within, c.min-room.ensures)) c.in-Some.ensures.place c.in-Some.ensures.first
    c.in-Some.ensures.kept

pub returns-in-Some-clause-kept : goal.returns-in-Some-clause-kept
returns-in-Some-clause-kept c =
    let line = c.args.self.now in
    let front = length-take line.used line.bytes in
    kept_near _ _ c.args.chunk.now c.min-room.result c.in-Some.place (omega (arith, front, line.room, line.within, c.min-room.ensures)) c.in-Some.ensures.place c.in-Some.ensures.kept

pub returns-in-None-clause-kept : goal.returns-in-None-clause-kept
returns-in-None-clause-kept c =
    let line = c.args.self.now in
    let front = length-take line.used line.bytes in
    kept_all _ _ c.args.chunk.now c.min-room.result _ (omega (arith, front, line.room, line.within)) (search rules) c.line_feed_from.ensures.place c.line_feed_from.ensures.from c.in-None.ensures.kept

pub returns-in-None-clause-fed : goal.returns-in-None-clause-fed
returns-in-None-clause-fed c =
    let line = c.args.self.now in
    let front = length-take line.used line.bytes in
    not_near _ _ c.args.chunk.now c.min-room.result _ (omega (arith, front, line.room, line.within)) (search rules) c.line_feed_from.ensures.place c.line_feed_from.ensures.from
    c.in-None.ensures.first c.line_feed_from.ensures.first c.in-None.ensures.kept

pub returns-in-None-clause-beyond : goal.returns-in-None-clause-beyond
returns-in-None-clause-beyond c =
    let line = c.args.self.now in
    let behind = length-drop line.used line.bytes in
    c.in-None.ensures.beyond
    ∙ behind_all _ c.args.chunk.now c.min-room.result _ (omega (arith, behind, line.room, line.within, c.min-room.ensures)) c.line_feed_from.ensures.place c.line_feed_from.ensures.from
