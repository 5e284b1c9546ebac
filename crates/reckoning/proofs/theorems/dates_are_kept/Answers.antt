use Rattle.reckoning.proofs.Dates.{dates_kept}
use Rattle.reckoning.proofs.theorems.dates_are_kept.Goals as goal

pub returns : goal.returns
returns g c =
    let m = g.R.Rule.model c.args.rule.now in
    let laws = g.met.R.Rule.lawful c.args.rule.now in
    dates_kept m laws
