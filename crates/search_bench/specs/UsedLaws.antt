-- The laws of a count by the faults that have come.
use Rattle.std.specs.Prelude.{ℕ, ◌+◌, refl}
use Rattle.std.proofs.Common.{arith}
use Rattle.rules.specs.Model.{Laws}
use Rattle.search_bench.specs.Used.{used}
use Rattle.std.proofs.lemmas.Bool.Decides.{nat_tests}

pub used_lawful : (k : ℕ) → Laws (used k)
used_lawful k = record {
  reflexive = λ s h. omega arith;
  transitive = λ s t u h i j p q. omega arith;
  clean_frees = λ s h. omega arith;
  clean_beats_spoiled = λ s t h e. grind (arith, nat_tests);
  clean_keeps = λ s t h i p. p;
  spoiled_keeps = λ s t u h i p e. (s + 1, grind (arith, nat_tests), grind (arith, nat_tests));
  clean_stays = λ s h. h;
  spoiled_stays = λ s t h e. grind (arith, nat_tests);
  opens = λ h. h;
  closed = λ h. refl;
  small = grind (arith, nat_tests);
}
