-- When a job finishes, at the grain of runs: a run of length p that starts at the clock S covers the quarters S + 1 to S + p; at its first fault,
-- in its quarter x, it is given up after V p x quarters and starts again.
use Rattle.std.specs.Prelude.{ℕ, ◌+◌, ◌-◌, max, cond, List, [], ◌∷◌, nat_le}
use Rattle.inspections.specs.Verdict.{Verdict}

-- the clock at which a job of length p, whose first run starts at S, is finished under the faults f
abbrev pub completion : Verdict → ℕ → ℕ → List ℕ → ℕ
completion V p S [] = S + p
completion V p S (q ∷ f) = cond (nat_le q S) (completion V p S f) (cond (nat_le q (S + p)) (completion V p (S + V p (q - S)) f) (S + p))

-- a job of a schedule: the clock before which it does not start, and the length of its runs
pub record Slot : Type 0 where
  pub start : ℕ
  pub run : ℕ

-- the clocks at which the jobs of a schedule are finished, on a machine that is free from T on: a job starts at its own start or at the finish before it,
-- whichever is later
abbrev pub finishes : Verdict → ℕ → List Slot → List ℕ → List ℕ
finishes V T [] f = []
finishes V T (j ∷ js) f = completion V j.run (max j.start T) f ∷ finishes V (completion V j.run (max j.start T) f) js f
