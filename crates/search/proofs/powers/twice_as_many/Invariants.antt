use Rattle.std.proofs.Common.{◌≡◌, ℕ, ◌<◌, get_or}
use Rattle.search.proofs.powers.twice_as_many.Given as goal

abbrev pub invariant-loop-state : goal.invariant-loop-state
invariant-loop-state g l = (s : ℕ) → s < l.state → get_or l.row s 0 ≡ get_or l.before (get_or l.before s 0) 0
