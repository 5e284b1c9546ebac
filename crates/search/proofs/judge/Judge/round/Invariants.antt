use Rattle.search.proofs.judge.Judge.round.Given as goal
use Rattle.search.specs.Rounds.{Ran}

abbrev pub invariant-loop-state : goal.invariant-loop-state
invariant-loop-state g l =
    Ran (g.R.Rule.model l.self.clean.rule.now) (g.I.Inspection.verdict l.self.inspection.now) l.task.quarters l.task.due l.state l.starts l.initial.next l.next l.initial.finish l.finish
