use Rattle.schedules.proofs.Removing.{removing}
use Rattle.schedules.proofs.theorems.removing_never_delays.Goals as goal

pub returns : goal.returns
returns g c = removing (g.R.Rule.model c.args.rule.now) (g.met.R.Rule.lawful c.args.rule.now)
