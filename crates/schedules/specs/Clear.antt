-- The first clear stretch as long as a job, and that the job is completed with it.
use Rattle.std.specs.Prelude.{◌≡◌, ℕ, ◌+◌, ◌*◌, ◌<◌, ◌≤◌, ◌⊎◌, List}
use Rattle.inspections.specs.Verdict.{at_end, at_fault}
use Rattle.rules.specs.Faults.{Increasing}
use Rattle.schedules.specs.Runs.{completion}
use Rattle.std.specs.List.{AllByRecursion}

-- no fault in the p quarters up to the clock τ
abbrev pub Clear : ℕ → ℕ → List ℕ → Type 0
Clear p τ f = AllByRecursion (λ q. (q + p ≤ τ) ⊎ (τ < q)) f

-- the least number with the property
abbrev pub Least : (ℕ → Type 0) → ℕ → Type 0
Least P n = P n × ((k : ℕ) → k < n → P k → ⊥)

-- With faults seen in their quarter, a job is finished at the least τ not before S + p that has no fault in the p quarters up to it.
abbrev pub FinishAtFault : Type 0
FinishAtFault =
    (p S c : ℕ) (f : List ℕ) → 1 ≤ p → Increasing c f →
    Least (λ τ. (S + p ≤ τ) × Clear p τ f) (completion at_fault p S f)

-- With faults seen at the end of the run, it is the least such τ that is a whole number of runs after S.
abbrev pub FinishAtEnd : Type 0
FinishAtEnd =
    (p S c : ℕ) (f : List ℕ) → 1 ≤ p → Increasing c f →
    Least (λ τ. (S + p ≤ τ) × ((n : ℕ) × (τ ≡ S + n * p)) × Clear p τ f) (completion at_end p S f)
