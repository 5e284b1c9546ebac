use Rattle.search.proofs.Ways.{by_from, front_from, pass_from}
use Rattle.search.proofs.judge.Judge.go_through.Goals as goal

pub returns-then-runs : goal.returns-then-runs
returns-then-runs g c s0 c0 F begun =
    pass_from (g.R.Rule.model c.args.self.now.clean.rule.now) (g.met.R.Rule.lawful c.args.self.now.clean.rule.now) (g.I.Inspection.verdict c.args.self.now.inspection.now) (g.met.I.Inspection.bounded c.args.self.now.inspection.now) s0 c0 c.args.job.length c.args.job.due
    F c.args.row.now c.args.finish.now c.requires.0 begun c.if-runs.ensures

pub returns : goal.returns
returns g c =
    let m = g.R.Rule.model c.args.self.now.clean.rule.now in
    let laws = g.met.R.Rule.lawful c.args.self.now.clean.rule.now in
    let V = g.I.Inspection.verdict c.args.self.now.inspection.now in
    let bounded = g.met.I.Inspection.bounded c.args.self.now.inspection.now in
    let p = c.args.job.length in
    let due = c.args.job.due in
    let searched = c.if-runs.ensures in
    λ s0 c0 F begun. (
      front_from m laws V bounded s0 c0 p due F c.args.row.now c.runs.new.starts c.args.finish.now c.runs.new.finish c.requires.0 begun searched,
      by_from m laws V bounded s0 c0 p due F c.args.row.now c.runs.new.starts c.args.finish.now c.runs.new.finish begun searched,
    )
