-- What the search asks of a board.
use Rattle.std.specs.Prelude.{◌<◌, ◌≤◌}
use Rattle.rules.specs.Model.{Model}
use Rattle.schedules.specs.World.{RunRight, World, board}
use Rattle.search.specs.Jobs.{Searchable}
use Rattle.std.specs.List.{AllByRecursion}

-- the state is one of the rule's, the clock has not ended, the run on the machine is as it should be, and every job has a due quarter up to 4096 and a length from 1 to 96
pub record Fit (m : Model) (w : World) : Type 0 where
  pub state : w.state < m.size
  pub clock : w.clock ≤ 4096
  pub run : RunRight w.clock w.machine
  pub jobs : AllByRecursion Searchable (board w)
