use Rattle.std.proofs.Common.{refl, arith}
use Rattle.search.proofs.RoundGoing.{going_all, going_more, going_none, going_out}
use Rattle.search.proofs.judge.Judge.rounds.Goals as goal

pub loop-round-init : goal.loop-round-init
loop-round-init g c =
    going_none (g.R.Rule.model c.args.self.now.clean.rule.now) (g.met.R.Rule.lawful c.args.self.now.clean.rule.now) (g.I.Inspection.verdict c.args.self.now.inspection.now) (g.met.I.Inspection.bounded c.args.self.now.inspection.now) c.args.task.quarters c.args.task.due
    c.args.starts.now c.args.finish.now

pub returns-then-is_empty : goal.returns-then-is_empty
returns-then-is_empty g c =
    going_all (g.R.Rule.model c.args.self.now.clean.rule.now) (g.met.R.Rule.lawful c.args.self.now.clean.rule.now) (g.I.Inspection.verdict c.args.self.now.inspection.now) (g.met.I.Inspection.bounded c.args.self.now.inspection.now) c.args.task.quarters c.args.task.due
    c.loop-round._round c.args.starts.now c.loop-round.starts c.args.finish.now c.loop-round.finish
    (λ s t l e. omega (arith, c.if-is_empty.ensures.0 refl s)) c.loop-round.invariant

pub loop-round-preserved : goal.loop-round-preserved
loop-round-preserved g c =
    going_more (g.R.Rule.model c.args.self.now.clean.rule.now) (g.met.R.Rule.lawful c.args.self.now.clean.rule.now) (g.I.Inspection.verdict c.args.self.now.inspection.now) (g.met.I.Inspection.bounded c.args.self.now.inspection.now) c.args.task.quarters c.args.task.due
    c.loop-round._round c.args.starts.now c.loop-round.starts c.clear.new.row c.round.new.next c.args.finish.now c.loop-round.finish c.round.new.finish
    c.clear.ensures c.if-round.ensures c.loop-round.invariant

pub returns : goal.returns
returns g c =
    going_out (g.R.Rule.model c.args.self.now.clean.rule.now) (g.met.R.Rule.lawful c.args.self.now.clean.rule.now) (g.I.Inspection.verdict c.args.self.now.inspection.now) (g.met.I.Inspection.bounded c.args.self.now.inspection.now) c.args.task.quarters c.args.task.due
    c.loop-round._round c.args.starts.now c.loop-round.starts c.args.finish.now c.loop-round.finish (omega arith) c.loop-round.invariant
