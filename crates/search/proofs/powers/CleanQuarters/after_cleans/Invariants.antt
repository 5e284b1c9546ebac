use Rattle.rules.specs.Model.{cleans}
use Rattle.search.proofs.Cleans.{LeadsOn}
use Rattle.search.proofs.powers.CleanQuarters.after_cleans.Given as goal

abbrev pub invariant-loop-row : goal.invariant-loop-row
invariant-loop-row g l = LeadsOn (g.R.Rule.model l.self.rule.now) (cleans (g.R.Rule.model l.self.rule.now) l.quarters l.state) l.left l.row-index l.at
