use Rattle.std.proofs.Common.{rules}
use Rattle.board.proofs.Seeing.{ended_spoiled, spoil_seen}
use Rattle.board.proofs.opening.Board.spoil.Goals as goal

pub returns-clause-seen : goal.returns-clause-seen
returns-clause-seen g c =
    let model = g.R.Rule.model c.args.self.now.rule in
    spoil_seen model (g.met.R.Rule.lawful c.args.self.now.rule) _ _
    (ended_spoiled model _ _ _ _ (search rules) c.after_spoiled-next.ensures c.ok_or.ensures.value c.end_in.ensures.quarter)
