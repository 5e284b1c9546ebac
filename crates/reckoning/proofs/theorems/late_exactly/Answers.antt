use Rattle.reckoning.proofs.LateExactly.{late_exactly}
use Rattle.reckoning.proofs.theorems.late_exactly.Goals as goal

pub returns : goal.returns
returns g c =
    let m = g.R.Rule.model c.args.rule.now in
    let laws = g.met.R.Rule.lawful c.args.rule.now in
    late_exactly m laws
