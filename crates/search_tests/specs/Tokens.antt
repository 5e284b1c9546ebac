-- A rule that is neither count nor gap: each fault takes a token, and each clean quarter brings one back.
use Rattle.std.specs.Prelude.{ℕ, ◌+◌, ◌-◌, ◌≤◌, min, cond, Some, None, nat_lt}
use Rattle.rules.specs.Model.{Model, capped}

-- At most n tokens: the state is how many are there. More is freer.
abbrev pub tokens : ℕ → Model
tokens n = record {
  size = capped (n + 1);
  opening = capped (n + 1) - 1;
  clean = λ s. min (s + 1) (capped (n + 1) - 1);
  spoiled = λ s. cond (nat_lt 0 s) (Some (s - 1)) None;
  Freer = λ s t. t ≤ s;
}
