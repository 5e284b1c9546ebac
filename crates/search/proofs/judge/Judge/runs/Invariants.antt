use Rattle.std.proofs.Common.{◌+◌, ◌≤◌}
use Rattle.search.proofs.Going.{Going, left_to}
use Rattle.search.proofs.judge.Judge.runs.Given as goal

abbrev pub invariant-loop-next : goal.invariant-loop-next
invariant-loop-next g l =
    (l.sweep.state ≤ (g.R.Rule.model l.self.clean.rule.now).size)
    × Going (g.R.Rule.model l.self.clean.rule.now) (g.I.Inspection.verdict l.self.inspection.now) l.task.quarters l.task.due l.initial.starts l.starts l.done l.initial.finish l.finish

abbrev pub decreases-loop-next : goal.decreases-loop-next
decreases-loop-next g l = left_to (l.task.due + 1) l.done
