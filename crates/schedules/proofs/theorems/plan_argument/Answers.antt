use Rattle.schedules.proofs.Decides.{decides, plan_argument}
use Rattle.schedules.proofs.theorems.plan_argument.Goals as goal

pub returns : goal.returns
returns g c =
    let m = g.R.Rule.model c.args.rule.now in
    let laws = g.met.R.Rule.lawful c.args.rule.now in
    record { ticket = plan_argument m laws; decides = decides m laws }
