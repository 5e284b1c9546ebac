-- The runs of one job: a chain of runs that were given up, and then a clean one.
use Rattle.std.specs.Prelude.{◌≡◌, ℕ, zero, suc, ◌+◌, ◌-◌, ◌<◌, ◌≤◌, ◌⊎◌, List, Some, slice_index}
use Rattle.inspections.specs.Verdict.{Verdict}
use Rattle.rules.specs.Model.{Model, cleans}
use Rattle.search.specs.Chains.{Starts}
use Rattle.search.specs.Fronts.{Covered}
use Rattle.search.specs.Hits.{Hit}
use Rattle.search.specs.Rows.{In}

-- n quarters lead from a state to another, with any faults that are permitted on the way
pub data Goes (m : Model) : ℕ → ℕ → ℕ → Type 0 where
  still : {s : ℕ} → Goes m zero s s
  cleanly : {n s u : ℕ} → Goes m n s u → Goes m (suc n) s (m.clean u)
  faultily : {n s u v : ℕ} → Goes m n s u → m.spoiled u ≡ Some v → Goes m (suc n) s v

-- A run of length p that starts at t in the state s has a fault, with others after it or none, and is given up at t' in
-- the state s'. A `Hit` is one with no other fault.
pub record Strike (m : Model) (V : Verdict) (p s t s' t' : ℕ) : Type 0 where
  -- so many clean quarters come before the first fault
  pub before : ℕ
  pub early : before < p
  -- the state after the first fault, which the rule permits
  pub spoiled : ℕ
  pub permitted : m.spoiled (cleans m before s) ≡ Some spoiled
  pub goes : Goes m (V p (before + 1) - (before + 1)) spoiled s'
  pub time : t' ≡ t + V p (before + 1)

-- the starts of a job's runs: the first, and each after a run that was given up, as `Fails` says
pub data Chain (Fails : ℕ → ℕ → ℕ → ℕ → Type 0) (First : ℕ → ℕ → Type 0) : ℕ → ℕ → Type 0 where
  first : {s t : ℕ} → First s t → Chain Fails First s t
  again : {s t s' t' : ℕ} → Chain Fails First s t → Fails s t s' t' → Chain Fails First s' t'

-- a chain of runs, the last of which is clean and ends at f in the state s
pub record Ends (m : Model) (Fails : ℕ → ℕ → ℕ → ℕ → Type 0) (p : ℕ) (First : ℕ → ℕ → Type 0) (s f : ℕ) : Type 0 where
  pub from : ℕ
  pub start : ℕ
  pub chain : Chain Fails First from start
  pub state : s ≡ cleans m p from
  pub time : f ≡ start + p

-- a chain of runs of which the last, were it clean, would end after the due quarter
pub record Late (Fails : ℕ → ℕ → ℕ → ℕ → Type 0) (p due : ℕ) (First : ℕ → ℕ → Type 0) : Type 0 where
  pub from : ℕ
  pub start : ℕ
  pub chain : Chain Fails First from start
  pub passes : due < start + p

-- Every chain keeps the due quarter. What `finish` has gained is the end of a chain of hits; and for each end of a chain,
-- also of one with more faults or one that starts earlier or less free than the row says, it has one that is not earlier,
-- in a state at least as free.
pub record Searched (m : Model) (V : Verdict) (p due : ℕ) (row finish finish' : List ℕ) : Type 0 where
  pub on_time : (s t : ℕ) → Chain (Strike m V p) (Covered m row) s t → t + p ≤ due
  pub sound : (s f : ℕ) → In finish' s f → In finish s f ⊎ Ends m (Hit m V p 0 p) p (Starts m row) s f
  pub covers : (s t : ℕ) → Chain (Strike m V p) (Covered m row) s t → Covered m finish' (cleans m p s) (t + p)
  pub keeps : (s : ℕ) → slice_index finish s ≤ slice_index finish' s
