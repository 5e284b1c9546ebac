-- The runs of one job: a chain of runs that were hit and given up, and then a clean one.
use Rattle.std.specs.Prelude.{◌≡◌, ℕ, ◌+◌, ◌<◌, ◌≤◌, ◌⊎◌, List, slice_index}
use Rattle.inspections.specs.Verdict.{Verdict}
use Rattle.rules.specs.Model.{Model, cleans}
use Rattle.search.specs.Hits.{Hit}
use Rattle.search.specs.Rows.{Covers, In}

-- the row starts a run in the state s at t
abbrev pub Starts : Model → List ℕ → ℕ → ℕ → Type 0
Starts m row s t = (s < m.size) × In row s t

-- the starts of a job's runs, of length p: those of the row, and each after a run that could have kept the due quarter and was hit
pub data Chain (m : Model) (V : Verdict) (p due : ℕ) (row : List ℕ) : ℕ → ℕ → Type 0 where
  first : {s t : ℕ} → Starts m row s t → Chain m V p due row s t
  again : {s t s' t' : ℕ} → Chain m V p due row s t → t + p ≤ due → Hit m V p 0 p s t s' t' → Chain m V p due row s' t'

-- a chain of runs, the last of which is clean and ends at f in the state s, not after the due quarter
pub record Ends (m : Model) (V : Verdict) (p due : ℕ) (row : List ℕ) (s f : ℕ) : Type 0 where
  pub from : ℕ
  pub start : ℕ
  pub chain : Chain m V p due row from start
  pub state : s ≡ cleans m p from
  pub time : f ≡ start + p
  pub by : f ≤ due

-- a chain of runs of which the last, were it clean, would end after the due quarter
pub record Passes (m : Model) (V : Verdict) (p due : ℕ) (row : List ℕ) : Type 0 where
  pub from : ℕ
  pub start : ℕ
  pub chain : Chain m V p due row from start
  pub passes : due < start + p

-- Every run of the job that starts as `all` has it can keep the due quarter; `all` has the starts of `row`, or later ones for the same states; and where a run
-- that starts so is hit, `all` has the start after it, or a later one for the same state. `finish` has gained how these runs end.
pub record Searched (m : Model) (V : Verdict) (p due : ℕ) (row all finish finish' : List ℕ) : Type 0 where
  pub grown : (s : ℕ) → slice_index row s ≤ slice_index all s
  pub reached : (s t : ℕ) → Starts m all s t → Chain m V p due row s t
  pub on_time : (s t : ℕ) → Starts m all s t → t + p ≤ due
  pub closed : (s t s' t' : ℕ) → Starts m all s t → Hit m V p 0 p s t s' t' → Covers all s' t'
  pub ended : (s t : ℕ) → Starts m all s t → Covers finish' (cleans m p s) (t + p)
  pub sound : (s f : ℕ) → In finish' s f → In finish s f ⊎ Ends m V p due row s f
  pub keeps : (s : ℕ) → slice_index finish s ≤ slice_index finish' s
