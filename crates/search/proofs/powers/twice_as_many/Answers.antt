use Rattle.std.proofs.Common.{◌<◌, ◌≢◌, length, ◌∙◌, arith, below_more, get_or-set_other, get_or-set_same}
use Rattle.std.proofs.lemmas.List.{get_or-take}
use Rattle.search.proofs.Doubling.{half_inside, twice_leads}
use Rattle.search.proofs.powers.twice_as_many.Goals as goal

pub bounds-before-half : goal.bounds-before-half
bounds-before-half g c =
    let laws = g.met.R.Rule.lawful c.args.rule.now in
    let inside = half_inside (g.R.Rule.model c.args.rule.now) laws c.args.before.now c.requires.0 c.requires.1 c.loop-state.state (omega arith) in
    let same = get_or-take c.size.result c.args.before.now c.loop-state.state 0 (omega arith) in
    omega (arith, inside, same, laws.small)

pub loop-state-preserved : goal.loop-state-preserved
loop-state-preserved g c =
    let laws = g.met.R.Rule.lawful c.args.rule.now in
    below_more _ _
    (λ k h. let ne : k ≢ c.loop-state.state = omega arith in rw get_or-set_other (c.loop-state.invariant k h))
    (let lt : c.loop-state.state < length c.loop-state.row = omega (arith, laws.small) in
    get_or-set_same c.loop-state.row c.loop-state.state _ 0 lt ∙ rw (get_or-take c.size.result c.args.before.now c.loop-state.state 0 (omega arith)))

pub returns : goal.returns
returns g c k leads s h =
    let laws = g.met.R.Rule.lawful c.args.rule.now in
    c.loop-state.invariant s (omega (arith, c.size.ensures, laws.small)) ∙ twice_leads (g.R.Rule.model c.args.rule.now) laws c.args.before.now k leads s h
