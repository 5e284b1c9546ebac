-- At most k faults, numbered by those that have come.
use Rattle.std.specs.Prelude.{ℕ, ◌+◌, ◌≤◌, cond, Some, None, nat_lt}
use Rattle.rules.specs.Model.{Model, capped}

-- the state is how many faults have come, and fewer is freer
abbrev pub used : ℕ → Model
used k = record {
  size = capped (k + 1);
  opening = 0;
  clean = λ s. s;
  spoiled = λ s. cond (nat_lt (s + 1) (capped (k + 1))) (Some (s + 1)) None;
  Freer = λ s t. s ≤ t;
}
