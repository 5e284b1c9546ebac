-- Words on lists and on cases.
use Rattle.std.specs.Prelude.{◌⊎◌, List, [], ◌∷◌}

-- P holds of some element
abbrev pub Any : {A : Type 0} → (A → Type 0) → List A → Type 0
Any P [] = ⊥
Any P (x ∷ xs) = P x ⊎ Any P xs

-- the lists are as long, and R holds at each place
abbrev pub Pairs : {A B : Type 0} → (A → B → Type 0) → List A → List B → Type 0
Pairs R [] [] = Unit {0}
Pairs R [] (y ∷ ys) = ⊥
Pairs R (x ∷ xs) [] = ⊥
Pairs R (x ∷ xs) (y ∷ ys) = R x y × Pairs R xs ys

-- Q holds of the first element of which P holds
abbrev pub First : {A : Type 0} → (A → Type 0) → (A → Type 0) → List A → Type 0
First P Q [] = ⊥
First P Q (x ∷ xs) = (P x × Q x) ⊎ ((P x → ⊥) × First P Q xs)

-- where P holds, A, and otherwise B
abbrev pub If : Type 0 → Type 0 → Type 0 → Type 0
If P A B = (P × A) ⊎ ((P → ⊥) × B)
