use Rattle.std.proofs.Common.{◌+◌, ◌/◌, sym, ◌∙◌, subst}
use Rattle.rules.specs.Model.{cleans}
use Rattle.search.proofs.Cleans.{LeadsOn, even, leads_even, leads_odd}
use Rattle.search.proofs.powers.CleanQuarters.after_cleans.Goals as goal
use Rattle.search.proofs.powers.CleanQuarters.after_cleans.Goals.{else-left-eq1, then-left-eq1}

pub loop-row-preserved : goal.loop-row-preserved
loop-row-preserved g c =
    let m = g.R.Rule.model c.args.self.now.rule.now in
    let laws = g.met.R.Rule.lawful c.args.self.now.rule.now in
    let end = cleans m c.args.quarters c.args.state in
    let left = c.loop-row.left in
    let k = c.loop-row.row-index in
    let at = c.loop-row.at in
    elim c.if-left-eq1.branch [
      | then-left-eq1 w ↦
          leads_odd m laws end left k at c.if-left-eq1.at w.if-left-eq1.true (w.at-is ∙ c.args.self.now.filled k c.loop-row-test.true at c.loop-row.invariant.0) c.loop-row.invariant
      | else-left-eq1 w ↦
          let odd = w.if-left-eq1.false in
          subst (LeadsOn m end (left / 2) (k + 1)) (sym w.at-is) (leads_even m end left k at (even left odd) c.loop-row.invariant)
    ]
