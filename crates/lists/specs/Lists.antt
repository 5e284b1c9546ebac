-- A list in the first cells of a slice: what it holds, and what an append leaves.
use Rattle.std.specs.Prelude.{◌≡◌, ℕ, ◌+◌, ◌<◌, ◌≤◌, List, [], ◌∷◌, ◌++◌, length, take, drop, Some, None, Ok, Err, Option, Result, slice_index_or}
use Rattle.calls.specs.declared.refusal.Refusal.{Refusal}
use Rattle.calls.specs.declared.refusal.Refusal.TheVariants.{ListFull}

-- the elements of a list of n elements over the cells xs
abbrev pub content : {X : Type 0} → ℕ → List X → List X
content n xs = take n xs

-- the list lies within its cells
abbrev pub Whole : {X : Type 0} → ℕ → List X → Type 0
Whole n xs = n ≤ length xs

-- Writing x behind n elements over the cells xs answers r and leaves the cells ys.
pub record Wrote {X : Type 0} (n : ℕ) (xs : List X) (x : X) (r : Result (Unit {0}) Refusal) (ys : List X) : Type 0 where
  pub room : n < length xs → (r ≡ Ok tt) × (content (n + 1) ys ≡ content n xs ++ x ∷ []) × (drop (n + 1) ys ≡ drop (n + 1) xs)
  pub full : length xs ≤ n → (r ≡ Err ListFull) × (ys ≡ xs)
  pub long : length ys ≡ length xs

-- An append of x to n elements over the cells xs answers r and leaves m elements over the cells ys.
pub record Appended {X : Type 0} (n : ℕ) (xs : List X) (x : X) (r : Result (Unit {0}) Refusal) (m : ℕ) (ys : List X) : Type 0 where
  -- with a cell left the content grows by x at its end, and the cells beyond stay
  pub room : n < length xs → (r ≡ Ok tt) × (m ≡ n + 1) × (content m ys ≡ content n xs ++ x ∷ []) × (drop m ys ≡ drop m xs)
  -- with no cell left it is refused, and nothing changes
  pub full : length xs ≤ n → (r ≡ Err ListFull) × (m ≡ n) × (ys ≡ xs)
  -- there are as many cells as before
  pub long : length ys ≡ length xs
  -- a list within its cells stays so
  pub whole : Whole n xs → Whole m ys

-- The answer r to reading the list xs at the index i.
pub record Element {X : Type 0} (xs : List X) (i : ℕ) (r : Option X) : Type 0 where
  -- none past the length
  pub none : length xs ≤ i → r ≡ None
  -- else the element there
  pub some : i < length xs → (d : X) → r ≡ Some (slice_index_or xs i d)
