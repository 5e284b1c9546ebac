-- The rule "at most k faults", and what it allows.
use Rattle.std.specs.Prelude.{ℕ, ◌+◌, ◌-◌, ◌<◌, ◌≤◌, cond, length, Some, None, nat_lt}
use Rattle.rules.specs.Model.{Model, capped}
use Rattle.rules.specs.Faults.{Allows}

-- At most k faults: the state is how many faults are left. A rule opens with all k, a clean quarter leaves them, and a spoiled quarter
-- takes one. More left is freer.
abbrev pub count : ℕ → Model
count k = record {
  size = capped (k + 1);
  opening = capped (k + 1) - 1;
  clean = λ s. s;
  spoiled = λ s. cond (nat_lt 0 s) (Some (s - 1)) None;
  Freer = λ s t. t ≤ s;
}

-- below 512, the rule allows exactly the lists of at most k faults
abbrev pub CountAllows : ℕ → Type 0
CountAllows k = k < 512 → Allows (count k) (λ f. length f ≤ k)
