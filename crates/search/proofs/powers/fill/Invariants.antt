use Rattle.search.proofs.powers.fill.Given as goal
use Rattle.search.specs.Powers.{PowersTo}

abbrev pub invariant-loop-power : goal.invariant-loop-power
invariant-loop-power g l = PowersTo (g.R.Rule.model l.rule) l.power l.rows
