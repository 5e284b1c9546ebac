use Rattle.std.proofs.Common.{◌<◌, subst}
use mathlib.Core.Path.{subst⁻¹}
use Rattle.schedules.specs.World.{world_at}
use Rattle.search.proofs.Beginnings.{idle_front, idle_path}
use Rattle.search.proofs.Boards.{judges_idle}
use Rattle.search.proofs.board_search.first_late_of_board.Goals as goal
use Rattle.search.specs.Sequences.{JudgesBoard}

pub returns-in-None : goal.returns-in-None
returns-in-None g c =
    let m = g.R.Rule.model c.new.result.rule.now in
    let laws = g.met.R.Rule.lawful c.new.result.rule.now in
    let V = g.I.Inspection.verdict c.args.inspection.now in
    let bounded = g.met.I.Inspection.bounded c.args.inspection.now in
    let s0 = c.args.moment.state in
    let c0 = c.args.moment.clock in
    let inside = subst⁻¹ (λ r. s0 < (g.R.Rule.model r).size) c.new.ensures c.requires.fit.state in
    subst (λ r. JudgesBoard (g.R.Rule.model r) V (world_at c.args.moment c.args.waiting.now) c.args.finishes.now c.first_late.new.finishes c.first_late.result) c.new.ensures
    (judges_idle m V c0 s0 c.args.moment.machine c.args.waiting.now c.args.finishes.now c.first_late.new.finishes c.first_late.result c.in-None.is
    (c.first_late.ensures s0 c0 (λ h. c0) inside
    (idle_path m laws V bounded s0 c0 inside c.clear.new.row c.keep.new.row c.clear.ensures c.keep.ensures)
    (idle_front m laws V bounded s0 c0 inside c.clear.new.row c.keep.new.row c.clear.ensures c.keep.ensures)))
