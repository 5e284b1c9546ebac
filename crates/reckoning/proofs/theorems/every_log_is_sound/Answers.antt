use Rattle.reckoning.proofs.Sound.{led_sound}
use Rattle.reckoning.proofs.theorems.every_log_is_sound.Goals as goal

pub returns : goal.returns
returns g c =
    let m = g.R.Rule.model c.args.rule.now in
    let laws = g.met.R.Rule.lawful c.args.rule.now in
    led_sound m laws
