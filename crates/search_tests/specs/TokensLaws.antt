-- The laws of the tokens.
use Rattle.std.specs.Prelude.{ℕ, ◌-◌}
use Rattle.std.proofs.Common.{arith}
use Rattle.rules.specs.Model.{Laws}
use Rattle.search_tests.specs.Tokens.{tokens}
use Rattle.std.proofs.lemmas.Bool.Decides.{nat_tests}

pub tokens_lawful : (n : ℕ) → Laws (tokens n)
tokens_lawful n = record {
  reflexive = λ s h. omega arith;
  transitive = λ s t u h i j p q. omega arith;
  clean_frees = λ s h. omega arith;
  clean_beats_spoiled = λ s t h e. grind (arith, nat_tests);
  clean_keeps = λ s t h i p. omega arith;
  spoiled_keeps = λ s t u h i p e. (s - 1, grind (arith, nat_tests), grind (arith, nat_tests));
  clean_stays = λ s h. omega arith;
  spoiled_stays = λ s t h e. grind (arith, nat_tests);
  opens = λ h. omega arith;
  closed = λ h. omega arith;
  small = grind (arith, nat_tests);
}
