use Rattle.std.proofs.Common.{drop}
use Rattle.schedules.specs.World.{Distinct}
use Rattle.search.proofs.fits.are_distinct.Given as goal

abbrev pub invariant-loop-place : goal.invariant-loop-place
invariant-loop-place l = Distinct (drop l.place l.jobs)
