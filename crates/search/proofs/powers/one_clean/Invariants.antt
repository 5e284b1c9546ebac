use Rattle.std.proofs.Common.{◌≡◌, ℕ, ◌<◌, get_or}
use Rattle.search.proofs.powers.one_clean.Given as goal

abbrev pub invariant-loop-state : goal.invariant-loop-state
invariant-loop-state g l = (s : ℕ) → s < l.state → s < (g.R.Rule.model l.rule).size → get_or l.row s 0 ≡ (g.R.Rule.model l.rule).clean s
