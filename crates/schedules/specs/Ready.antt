-- Worlds as they should be.
use Rattle.std.specs.Prelude.{◌≤◌}
use Rattle.schedules.specs.World.{Distinct, RunRight, WithinLimits, World, board}
use Rattle.std.specs.List.{AllByRecursion}

-- the machine's run is as it should be, no job is empty, and no two have the same ticket
pub record Ready (w : World) : Type 0 where
  pub run : RunRight w.clock w.machine
  pub long : AllByRecursion (λ j. 1 ≤ j.length) (board w)
  pub distinct : Distinct (board w)

-- the same, and all jobs are within the limits
pub record Right (w : World) : Type 0 where
  pub run : RunRight w.clock w.machine
  pub limits : AllByRecursion WithinLimits (board w)
  pub distinct : Distinct (board w)
