-- What a search answers, in the words of plans and finishes.
use Rattle.std.specs.Prelude.{◌≡◌, ℕ, ◌<◌, ◌≤◌, ◌⊎◌, List, ◌++◌, length, get_or, drop, replicate, Ok, Err, Result, slice_index, slice_index_or}
use Rattle.calls.specs.declared.refusal.Refusal.{Refusal}
use Rattle.calls.specs.declared.refusal.Refusal.TheVariants.{Late, ListFull, OutsideLimits, TableTooShort, TicketTaken}
use Rattle.inspections.specs.Verdict.{Verdict}
use Rattle.rules.specs.Model.{Model}
use Rattle.schedules.specs.Lists.{Any, If}
use Rattle.schedules.specs.Plans.{CanBeLate, FirstToBeLate, WorstFinish}
use Rattle.schedules.specs.World.{Distinct, World, board, nobody}
use Rattle.search.specs.Fit.{Fit}

-- The first n jobs of the board cannot be late, and `new` begins with their worst finishes; its other numbers are those of `old`.
pub record Kept (m : Model) (V : Verdict) (w : World) (n : ℕ) (old new : List ℕ) : Type 0 where
  pub worst : (k : ℕ) → k < n → WorstFinish m V w (get_or (board w) k nobody).ticket (slice_index new k)
  pub on_time : (k : ℕ) → k < n → CanBeLate m V w (slice_index_or (board w) k nobody) → ⊥
  pub rest : (k : ℕ) → n ≤ k → slice_index new k ≡ slice_index old k

-- nobody can be late
abbrev pub AllKept : Model → Verdict → World → List ℕ → List ℕ → Type 0
AllKept m V w old new = (Any (CanBeLate m V w) (board w) → ⊥) × Kept m V w (length (board w)) old new

-- the job with the ticket, at the place n, is the first that can be late
abbrev pub LateFrom : Model → Verdict → World → ℕ → List ℕ → List ℕ → Type 0
LateFrom m V w t old new = FirstToBeLate m V w t × ((n : ℕ) × (n < length (board w)) × ((get_or (board w) n nobody).ticket ≡ t) × Kept m V w n old new)

-- when the search has run, the first 16384 numbers of the table are 0, and the rest is untouched
abbrev pub Swept : List ℕ → List ℕ → Type 0
Swept table table' = table' ≡ replicate 16384 0 ++ drop 16384 table

-- a refusal that leaves all memory as it was
abbrev pub Refuses : Refusal → List ℕ → List ℕ → List ℕ → List ℕ → Result (Unit {0}) Refusal → Type 0
Refuses e old new table table' r = (r ≡ Err e) × (new ≡ old) × (table' ≡ table)

-- what is found
abbrev pub Found : Model → Verdict → World → List ℕ → List ℕ → Result (Unit {0}) Refusal → Type 0
Found m V w old new r = ((r ≡ Ok tt) × AllKept m V w old new) ⊎ ((t : ℕ) × (r ≡ Err (Late t)) × LateFrom m V w t old new)

-- The answer to a search of the board w, which finds the numbers `old` and the table `table` and leaves `new` and `table'`.
abbrev pub Answers : Model → Verdict → World → List ℕ → List ℕ → List ℕ → List ℕ → Result (Unit {0}) Refusal → Type 0
Answers m V w old new table table' r =
    If (Fit m w → ⊥) (Refuses OutsideLimits old new table table' r)
    (If (Distinct (board w) → ⊥) (Refuses TicketTaken old new table table' r)
    (If (length table < 16384) (Refuses TableTooShort old new table table' r)
    (If (length old < length (board w)) (Refuses ListFull old new table table' r)
    (Swept table table' × Found m V w old new r))))
