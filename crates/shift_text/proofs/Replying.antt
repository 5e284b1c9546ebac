-- The text `0` is the number 0.
use Rattle.std.proofs.Common.{◌≡◌, [], ◌∷◌, decimal, arith}
use Rattle.std.proofs.lemmas.Fmt.{decimal_digit}

pub zero_digit : decimal 0 ≡ 48 ∷ []
zero_digit = decimal_digit 0 (omega arith)
