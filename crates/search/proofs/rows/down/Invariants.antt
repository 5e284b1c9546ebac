use Rattle.std.proofs.Common.{ℕ, ◌<◌, ◌≤◌}
use Rattle.search.proofs.rows.down.Given as goal
use Rattle.search.specs.Rows.{Pending}

abbrev pub invariant-loop-state : goal.invariant-loop-state
invariant-loop-state l = (s : ℕ) → l.state ≤ s → s < l.states → Pending l.row l.done s → ⊥
