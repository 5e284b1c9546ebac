-- How a run that is hit is given up.
use Rattle.std.specs.Prelude.{◌≡◌, ℕ, ◌+◌, ◌-◌, ◌<◌, ◌≤◌, Some}
use Rattle.inspections.specs.Verdict.{Verdict}
use Rattle.rules.specs.Model.{Model, cleans}

-- A run of length p that began at t, with g quarters gone in the state s, has its first fault after fewer than n clean quarters in all, no other, and is given
-- up at t' in the state s'.
pub record Hit (m : Model) (V : Verdict) (p g n s t s' t' : ℕ) : Type 0 where
  -- so many clean quarters of the run come before the fault
  pub before : ℕ
  pub gone : g ≤ before
  pub early : before < n
  -- the state after the fault, which the rule permits
  pub spoiled : ℕ
  pub permitted : m.spoiled (cleans m (before - g) s) ≡ Some spoiled
  pub state : s' ≡ cleans m (V p (before + 1) - (before + 1)) spoiled
  pub time : t' ≡ t + V p (before + 1)
