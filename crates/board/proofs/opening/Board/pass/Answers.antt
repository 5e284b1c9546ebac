use Rattle.std.proofs.Common.{rules}
use Rattle.board.proofs.Seeing.{pass_seen}
use Rattle.board.proofs.opening.Board.pass.Goals as goal

pub returns-clause-seen : goal.returns-clause-seen
returns-clause-seen g c =
    pass_seen (g.R.Rule.model c.args.self.now.rule) (g.met.R.Rule.lawful c.args.self.now.rule) _ _ (search rules)
