use Rattle.std.proofs.Common.{◌+◌, ◌-◌, get_or, refl, arith}
use Rattle.rules.specs.Model.{cleans}
use Rattle.search.proofs.Going.{going_all, going_late, going_more, going_none, left_less}
use Rattle.search.proofs.judge.Judge.runs.Goals as goal

pub loop-next-init : goal.loop-next-init
loop-next-init g c = (
  omega (arith, c.size-states.ensures),
  going_none (g.R.Rule.model c.args.self.now.clean.rule.now) (g.I.Inspection.verdict c.args.self.now.inspection.now) c.args.task.quarters c.args.task.due c.args.starts.now c.clear.new.row c.args.finish.now c.clear.ensures,
)

pub returns-then-run_from : goal.returns-then-run_from
returns-then-run_from g c =
    let found = c.in-Some.ensures in
    going_late (g.R.Rule.model c.args.self.now.clean.rule.now) (g.I.Inspection.verdict c.args.self.now.inspection.now) c.args.task.quarters c.args.task.due c.args.starts.now c.loop-next.starts c.loop-next.done c.args.finish.now c.loop-next.finish c.loop-next.invariant.1
    c.in-Some.next.state (get_or c.loop-next.starts c.in-Some.next.state 0 - 1) (omega arith, omega arith) c.if-run_from.ensures

pub loop-next-smaller : goal.loop-next-smaller
loop-next-smaller g c =
    let found = c.in-Some.ensures in
    let ran = c.if-run_from.ensures in
    left_less (c.args.task.due + 1) c.loop-next.done c.in-Some.next.state (get_or c.loop-next.starts c.in-Some.next.state 0) (omega arith) found.1 (omega (arith, ran.0))

pub loop-next-preserved : goal.loop-next-preserved
loop-next-preserved g c =
    let found = c.in-Some.ensures in
    let ran = c.if-run_from.ensures in (
      omega arith,
      going_more (g.R.Rule.model c.args.self.now.clean.rule.now) (g.I.Inspection.verdict c.args.self.now.inspection.now) c.args.task.quarters c.args.task.due c.args.starts.now c.loop-next.starts c.loop-next.done c.args.finish.now c.loop-next.finish c.loop-next.invariant.1
          c.in-Some.next.state (get_or c.loop-next.starts c.in-Some.next.state 0 - 1) (cleans (g.R.Rule.model c.args.self.now.clean.rule.now) c.args.task.quarters c.in-Some.next.state) c.run_from.new.next c.run_from.new.finish (omega arith) (omega arith) (omega arith) ran.0 refl ran.1 ran.2,
    )

pub returns : goal.returns
returns g c =
    going_all (g.R.Rule.model c.args.self.now.clean.rule.now) (g.I.Inspection.verdict c.args.self.now.inspection.now) c.args.task.quarters c.args.task.due c.args.starts.now c.loop-next.starts c.loop-next.done c.args.finish.now c.loop-next.finish c.loop-next.invariant.1
    (λ s h. c.in_default.ensures s (omega (arith, c.size-states.ensures)))
