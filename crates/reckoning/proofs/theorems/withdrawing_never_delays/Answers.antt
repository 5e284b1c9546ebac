use Rattle.reckoning.proofs.Withdrawing.{withdrawing}
use Rattle.reckoning.proofs.theorems.withdrawing_never_delays.Goals as goal

pub returns : goal.returns
returns g c = withdrawing (g.R.Rule.model c.args.rule.now) (g.met.R.Rule.lawful c.args.rule.now)
