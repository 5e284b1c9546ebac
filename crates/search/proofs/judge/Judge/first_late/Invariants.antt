use Rattle.std.proofs.Common.{ℕ, ◌<◌, List}
use Rattle.search.proofs.Sequencing.{Before}
use Rattle.search.proofs.judge.Judge.first_late.Given as goal
use Rattle.search.specs.Fronts.{Front, Path}

abbrev pub invariant-loop-place : goal.invariant-loop-place
invariant-loop-place g l =
    (l.path.state < (g.R.Rule.model l.self.clean.rule.now).size)
    × ((s0 c0 : ℕ) (F : List ℕ → ℕ) → s0 < (g.R.Rule.model l.self.clean.rule.now).size → Path (g.R.Rule.model l.self.clean.rule.now) s0 c0 F l.initial.path.time l.initial.path.state →
    Front (g.R.Rule.model l.self.clean.rule.now) (g.I.Inspection.verdict l.self.inspection.now) s0 c0 F l.initial.row →
    Before (g.R.Rule.model l.self.clean.rule.now) (g.I.Inspection.verdict l.self.inspection.now) s0 c0 F l.waiting l.initial.finishes l.place l.row l.finishes l.path.time l.path.state)
