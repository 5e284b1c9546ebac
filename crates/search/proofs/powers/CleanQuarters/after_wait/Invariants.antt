use Rattle.std.proofs.Common.{◌≡◌, ◌<◌}
use Rattle.rules.specs.Model.{cleans}
use Rattle.search.proofs.powers.CleanQuarters.after_wait.Given as goal

abbrev pub invariant-loop-quarter : goal.invariant-loop-quarter
invariant-loop-quarter g l = record {
  leads : l.at ≡ cleans (g.R.Rule.model l.self.rule.now) l._quarter l.state;
  inside : l.at < (g.R.Rule.model l.self.rule.now).size;
}
