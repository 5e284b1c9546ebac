use Rattle.std.proofs.Common.{◌≡◌, max, arith}
use Rattle.search.proofs.Beginnings.{waiting_begun, waiting_path}
use Rattle.search.proofs.judge.Judge.begin_waiting.Goals as goal
use Rattle.search.specs.Jobs.{slot}

pub returns : goal.returns
returns g c =
    let m = g.R.Rule.model c.args.self.now.clean.rule.now in
    let laws = g.met.R.Rule.lawful c.args.self.now.clean.rule.now in
    let k = slot c.args.job in
    let is : c.max-start.result ≡ max k.start c.args.path.time = omega (arith, c.max-start.ensures) in (
      λ V bounded s0 c0 F small path front. (
        waiting_path m laws V bounded s0 c0 small F k c.args.row.now c.drop_before.new.row c.keep.new.row c.clear.new.row c.args.path.time c.args.path.state c.max-start.result c.after_wait-state.result
            path front c.drop_before.ensures is c.after_wait-state.ensures.leads c.keep.ensures c.clear.ensures _ _ (omega arith) c.after_cleans.ensures.leads,
        waiting_begun m laws V bounded s0 c0 small F k c.args.row.now c.drop_before.new.row c.keep.new.row c.clear.new.row c.args.path.time c.args.path.state c.max-start.result c.after_wait-state.result
            path front c.drop_before.ensures is c.after_wait-state.ensures.leads c.keep.ensures c.clear.ensures c.args.job.due,
      ),
      c.after_cleans.ensures.inside,
    )
