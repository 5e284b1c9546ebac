-- What holds of every world that a log leads to.
use Rattle.std.specs.Prelude.{ℕ, ◌<◌, ◌≤◌, List, length}
use Rattle.inspections.specs.Verdict.{Verdict}
use Rattle.rules.specs.Faults.{Allowed}
use Rattle.rules.specs.Model.{Model}
use Rattle.schedules.specs.Ready.{Right}
use Rattle.schedules.specs.Walk.{OnTime}
use Rattle.schedules.specs.World.{World, board}
use Rattle.std.specs.List.{AllByRecursion}

-- A world as every log leads to.
pub record Sound (m : Model) (V : Verdict) (w : World) : Type 0 where
  -- the state is one of the rule's
  pub known : w.state < m.size
  pub in_time : w.clock ≤ 4096
  -- the run, the jobs and their tickets are as they should be
  pub right : Right w
  pub few : length (board w) ≤ 24
  -- nobody can be late under any list that is still allowed
  pub kept : (f : List ℕ) → Allowed m w.state w.clock f → AllByRecursion (OnTime V f w) (board w)
