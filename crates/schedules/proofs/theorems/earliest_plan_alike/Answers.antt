use Rattle.schedules.proofs.Alike.{alike}
use Rattle.schedules.proofs.theorems.earliest_plan_alike.Goals as goal

pub returns : goal.returns
returns g c = alike (g.R.Rule.model c.args.rule.now)
