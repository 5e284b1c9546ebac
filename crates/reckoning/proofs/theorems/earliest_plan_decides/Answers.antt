use Rattle.reckoning.proofs.Booking.{decides_bookings}
use Rattle.reckoning.proofs.theorems.earliest_plan_decides.Goals as goal

pub returns : goal.returns
returns g c =
    let m = g.R.Rule.model c.args.rule.now in
    let laws = g.met.R.Rule.lawful c.args.rule.now in
    decides_bookings m laws
