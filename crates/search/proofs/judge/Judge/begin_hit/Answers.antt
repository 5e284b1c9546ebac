use Rattle.std.proofs.Common.{◌+◌, ap, ◌∙◌, subst, arith}
use Rattle.rules.specs.Model.{cleans}
use Rattle.search.proofs.Beginnings.{hit_begun, hit_path}
use Rattle.search.proofs.judge.Judge.begin_hit.Goals as goal
use Rattle.search.specs.Rows.{Grew, KeepsOne}

pub returns : goal.returns
returns g c =
    let m = g.R.Rule.model c.args.self.now.clean.rule.now in
    let laws = g.met.R.Rule.lawful c.args.self.now.clean.rule.now in
    let p = c.args.quarters in
    let wait = c.args.wait in
    let again = c.after_cleans-again.ensures.leads in
    let kept = subst (λ s. Grew (KeepsOne s (c.args.now.time + wait)) c.clear.new.row c.keep.new.row) again c.keep.ensures in
    record {
      path = λ V bounded.
          hit_path m laws V bounded c.args.now.state c.args.now.time c.requires.state p wait c.clear.new.row c.keep.new.row c.clear-2.new.row c.clear.ensures kept c.clear-2.ensures
          _ _ (omega arith) (c.after_cleans.ensures.leads ∙ ap (cleans m p) again);
      inside = c.after_cleans.ensures.inside;
      begun = λ V due bounded.
          hit_begun m laws V bounded c.args.now.state c.args.now.time c.requires.state p wait c.clear.new.row c.keep.new.row c.clear-2.new.row c.clear.ensures kept c.clear-2.ensures due;
    }
