use Rattle.std.proofs.Common.{◌≡◌, ◌-◌, ◌<◌}
use Rattle.rules.specs.Model.{cleans}
use Rattle.search.proofs.judge.Judge.keep_hits.Given as goal
use Rattle.search.specs.Hits.{Hit}
use Rattle.search.specs.Rows.{Grew}

abbrev pub invariant-loop-before : goal.invariant-loop-before
invariant-loop-before g l = record {
  leads : l.at ≡ cleans (g.R.Rule.model l.self.clean.rule.now) (l.before - l.run.gone) l.state;
  inside : l.at < (g.R.Rule.model l.self.clean.rule.now).size;
  kept : Grew (Hit (g.R.Rule.model l.self.clean.rule.now) (g.I.Inspection.verdict l.self.inspection.now) l.run.quarters l.run.gone l.before l.state l.run.begun) l.initial.next l.next;
}
