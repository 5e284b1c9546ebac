use Rattle.search.proofs.Dropping.{Dropped}
use Rattle.search.proofs.rows.drop_before.Given as goal

abbrev pub invariant-loop-latest : goal.invariant-loop-latest
invariant-loop-latest l = Dropped l.time l.latest-index l.initial.row l.row
