-- Numbers in a line of text: one to five digits, with no leading zero but in 0 itself.
use Rattle.std.specs.Prelude.{◌≡◌, ℕ, ◌<◌, ◌≤◌, ◌⊎◌, List, [], ◌∷◌, ◌++◌, decimal}

-- the byte is a decimal digit
abbrev pub Digit : ℕ → Type 0
Digit b = (48 ≤ b) × (b ≤ 57)

-- the bytes do not begin with a digit
abbrev pub NoDigit : List ℕ → Type 0
NoDigit [] = Unit {0}
NoDigit (b ∷ bs) = Digit b → ⊥

-- The bytes bs are the decimal digits of the value v and then the bytes rest; a digit follows only 0 and numbers of five digits.
pub record Begins (bs : List ℕ) (v : ℕ) (rest : List ℕ) : Type 0 where
  pub small : v < 100000
  pub whole : bs ≡ decimal v ++ rest
  pub ends : 0 < v → v < 10000 → NoDigit rest

-- the longest number that the bytes begin with and the bytes after it, or 100000 and all bytes where they begin with none
abbrev pub Longest : List ℕ → ℕ → List ℕ → Type 0
Longest bs v rest = Begins bs v rest ⊎ ((v ≡ 100000) × (rest ≡ bs) × NoDigit bs)

-- the value u with the bytes bs behind it is the value v with the bytes rest behind it, and v is as long as it can be
abbrev pub Lengthened : ℕ → List ℕ → ℕ → List ℕ → Type 0
Lengthened u bs v rest = (0 < v) × Begins (decimal u ++ bs) v rest
