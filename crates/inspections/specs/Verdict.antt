-- When a run with a fault is given up: a run of length p whose first fault is in its quarter x.
use Rattle.std.specs.Prelude.{◌≡◌, ℕ, ◌<◌, ◌≤◌, cond, ◌&&◌, nat_le}

-- after how many quarters a run of length p is given up, where its first fault is in its quarter x
abbrev pub Verdict : Type 0
Verdict = ℕ → ℕ → ℕ

-- the laws of an inspection
pub record Bounded (V : Verdict) : Type 0 where
  -- a run is given up at its first fault or later
  pub from_fault : (p x : ℕ) → 1 ≤ x → x ≤ p → x ≤ V p x
  -- a run is given up at its end or before
  pub to_end : (p x : ℕ) → 1 ≤ x → x ≤ p → V p x ≤ p
  -- quarters are numbered from 1, so the answer at 0 is 0
  pub before : (p : ℕ) → V p 0 ≡ 0
  -- a fault after the end is not in the run, and the answer is 0
  pub after : (p x : ℕ) → p < x → V p x ≡ 0

-- the answer n where the quarter x is in a run of length p, and 0 where it is not
abbrev pub in_run : ℕ → ℕ → ℕ → ℕ
in_run p x n = cond (nat_le 1 x && nat_le x p) n 0

-- at the end: the run goes on to its end, and is then found spoiled
abbrev pub at_end : Verdict
at_end p x = in_run p x p

-- at the fault: the run is given up with its first spoiled quarter
abbrev pub at_fault : Verdict
at_fault p x = in_run p x x
