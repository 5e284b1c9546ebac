-- Everybody is on time where every finish that is foreseen is in time.
use Rattle.std.proofs.Common.{ℕ, ◌≤◌, List, arith}
use Rattle.std.specs.List.{AllByRecursion}
use Rattle.inspections.specs.Verdict.{Verdict, Bounded}
use Rattle.rules.specs.Faults.{Increasing}
use Rattle.schedules.specs.Lists.{Pairs}
use Rattle.calls.specs.declared.call.Job.{Job}
use Rattle.schedules.specs.World.{World, board}
use Rattle.schedules.specs.Walk.{Gives, Finish, OnTime}
use Rattle.schedules.specs.Ready.{Ready}
use Rattle.schedules.specs.Foreseen.{foreseen}
use Rattle.schedules.proofs.Lists.{pairs_with, pairs_all}
use Rattle.schedules.proofs.Bridge.{bridge}
use Rattle.schedules.proofs.Planned.{least_unique}

abbrev pub InTime : Job → ℕ → Type 0
InTime j q = q ≤ j.due

abbrev pub times_of : Verdict → World → List ℕ → List ℕ
times_of V w f = foreseen V w.clock w.machine w.waiting f

module _ (V : Verdict) (bounded : Bounded V) (w : World) (ready : Ready w) (f : List ℕ) (i : Increasing w.clock f) where
  pub times_in_time : AllByRecursion (OnTime V f w) (board w) → Pairs InTime (board w) (times_of V w f)
  times_in_time kept =
      pairs_with (λ j q. Finish V f w j.ticket q) InTime (OnTime V f w)
      (λ j q ends (n, ends', by). let e = least_unique (Gives V f w.clock w.machine w.waiting j.ticket) q n ends ends' in omega arith)
      (board w) (times_of V w f) (bridge V bounded w ready f i) kept

  pub in_time_kept : Pairs InTime (board w) (times_of V w f) → AllByRecursion (OnTime V f w) (board w)
  in_time_kept times =
      pairs_all (λ j q. Finish V f w j.ticket q) InTime (OnTime V f w) (λ j q ends by. (q, ends, by)) (board w) (times_of V w f) (bridge V bounded w ready f i) times
