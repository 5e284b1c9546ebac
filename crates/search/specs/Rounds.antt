-- One round of a job: the runs that start as a row has it.
use Rattle.std.specs.Prelude.{◌≡◌, ℕ, ◌+◌, ◌<◌, ◌≤◌, List}
use Rattle.inspections.specs.Verdict.{Verdict}
use Rattle.rules.specs.Model.{Model, cleans}
use Rattle.search.specs.Hits.{Hit}
use Rattle.search.specs.Rows.{Grew, In}

-- A run that starts as the row has it, in a state below n, is hit and given up at t' in the state s'.
pub record HitOf (m : Model) (V : Verdict) (p n : ℕ) (row : List ℕ) (s' t' : ℕ) : Type 0 where
  pub from : ℕ
  pub start : ℕ
  pub below : from < n
  pub starts : In row from start
  pub hit : Hit m V p 0 p from start s' t'

-- A run that starts as the row has it, in a state below n, is clean and ends at t' in the state s'.
pub record CleanOf (m : Model) (p n : ℕ) (row : List ℕ) (s' t' : ℕ) : Type 0 where
  pub from : ℕ
  pub start : ℕ
  pub below : from < n
  pub starts : In row from start
  pub state : s' ≡ cleans m p from
  pub time : t' ≡ start + p

-- A clean run that starts as the row has it, in a state below n, ends after the due quarter.
pub record LateOf (p n due : ℕ) (row : List ℕ) : Type 0 where
  pub from : ℕ
  pub start : ℕ
  pub below : from < n
  pub starts : In row from start
  pub passes : due < start + p

-- The runs that start as the row has it, in the states below n: each clean one keeps the due quarter, `next` has gained
-- how they are given up, and `finish` how they end.
pub record Ran (m : Model) (V : Verdict) (p due n : ℕ) (row next next' finish finish' : List ℕ) : Type 0 where
  pub on_time : (s t : ℕ) → s < n → In row s t → t + p ≤ due
  pub given_up : Grew (HitOf m V p n row) next next'
  pub finished : Grew (CleanOf m p n row) finish finish'
