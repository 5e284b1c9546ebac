use Rattle.std.proofs.Common.{◌+◌, refl, subst}
use Rattle.search.proofs.Beginnings.{open_begun, open_path}
use Rattle.search.proofs.judge.Judge.begin_unhit.Goals as goal
use Rattle.search.specs.Rows.{Grew, KeepsOne}

pub returns : goal.returns
returns g c =
    let m = g.R.Rule.model c.args.self.now.clean.rule.now in
    let laws = g.met.R.Rule.lawful c.args.self.now.clean.rule.now in
    let V = g.I.Inspection.verdict c.args.self.now.inspection.now in
    let bounded = g.met.I.Inspection.bounded c.args.self.now.inspection.now in
    let p = c.args.run.quarters in
    let gone = c.args.run.gone in
    let B = c.args.run.begun in
    let there = c.after_cleans.ensures.leads in
    let kept = subst (λ s. Grew (KeepsOne s (B + p)) c.clear.new.row c.keep.new.row) there c.keep.ensures in
    record {
      path = open_path m laws V bounded c.args.state (B + gone) c.requires.state p gone B c.clear-2.new.row c.keep_hits.new.next c.clear.new.row c.keep.new.row
          c.clear-2.ensures c.keep_hits.ensures c.clear.ensures kept refl c.requires.gone c.requires.by _ _ refl there;
      inside = c.after_cleans.ensures.inside;
      begun = open_begun m laws V bounded c.args.state (B + gone) c.requires.state p gone B c.clear-2.new.row c.keep_hits.new.next c.clear.new.row c.keep.new.row
          c.clear-2.ensures c.keep_hits.ensures c.clear.ensures kept refl c.requires.gone c.requires.by;
    }
