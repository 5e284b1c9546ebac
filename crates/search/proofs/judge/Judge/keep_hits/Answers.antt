use Rattle.std.proofs.Common.{◌≡◌, ◌+◌, ◌-◌, ap, ◌∙◌, subst, arith}
use Rattle.rules.specs.Model.{cleans}
use Rattle.search.proofs.Cleans.{cleans_next}
use Rattle.search.proofs.Positions.{hits_more, hits_skip}
use Rattle.search.specs.Hits.{Hit}
use Rattle.search.specs.Rows.{Grew}
use Rattle.search.proofs.judge.Judge.keep_hits.Goals as goal
use Rattle.search.proofs.judge.Judge.keep_hits.Goals.{in-Some, in_default}

pub loop-before-preserved : goal.loop-before-preserved
loop-before-preserved g c =
    let m = g.R.Rule.model c.args.self.now.clean.rule.now in
    let V = g.I.Inspection.verdict c.args.self.now.inspection.now in
    let more : c.loop-before.before - c.args.run.gone + 1 ≡ c.loop-before.before + 1 - c.args.run.gone = omega arith in record {
      leads = cleans_next m (c.loop-before.before - c.args.run.gone) c.args.state c.loop-before.at c.after_clean-at.result c.loop-before.invariant.leads c.after_clean-at.ensures.leads ∙ ap (λ n. cleans m n c.args.state) more;
      inside = c.after_clean-at.ensures.inside;
      kept = elim c.match-after_fault.branch [
        | in-Some w ↦
            simp w.next-is (hits_more m V c.args.run.quarters c.args.run.gone c.args.state c.args.run.begun c.loop-before.before c.loop-before.at w.in-Some.spoiled w.given_up_after-given_up.result
            c.args.next.now c.loop-before.next w.keep.new.row w.after_cleans-then.result c.loop-before.auto.before
            c.loop-before.invariant.leads w.in-Some.ensures.leads w.given_up_after-given_up.ensures w.after_cleans-then.ensures.leads c.loop-before.invariant.kept w.keep.ensures)
        | in_default w ↦
            simp w.next-is (hits_skip m V c.args.run.quarters c.args.run.gone c.args.state c.args.run.begun c.loop-before.before c.loop-before.at
            c.args.next.now c.loop-before.next c.loop-before.invariant.leads w.in_default.ensures.leads c.loop-before.invariant.kept)
      ];
    }

pub returns : goal.returns
returns g c =
    let all : c.loop-before.before ≡ c.args.run.quarters = omega arith in
    subst (λ n. Grew (Hit (g.R.Rule.model c.args.self.now.clean.rule.now) (g.I.Inspection.verdict c.args.self.now.inspection.now) c.args.run.quarters c.args.run.gone n c.args.state c.args.run.begun) c.args.next.now c.loop-before.next) all c.loop-before.invariant.kept
