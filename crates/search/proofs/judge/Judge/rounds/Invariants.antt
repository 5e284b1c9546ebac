use Rattle.search.proofs.RoundGoing.{Going}
use Rattle.search.proofs.judge.Judge.rounds.Given as goal

abbrev pub invariant-loop-round : goal.invariant-loop-round
invariant-loop-round g l =
    Going (g.R.Rule.model l.self.clean.rule.now) (g.I.Inspection.verdict l.self.inspection.now) l.task.quarters l.task.due l._round l.initial.starts l.starts l.initial.finish l.finish
