-- The figures: one test over both tables, which computes.
use Rattle.std.proofs.Common.{◌≡◌, Bool, true, ◌&&◌, List, [], ◌∷◌, refl}
use Rattle.std.specs.List.{AllByRecursion}
use Rattle.std.proofs.lemmas.Bool.{and_parts}
use Rattle.figures.specs.Rows.{WorstRight, FinishRight}
use Rattle.figures.specs.Figures.{worst_rows, finish_rows, WorstFigures, FinishFigures}
use Rattle.figures.proofs.Checks.{worst_row_test, worst_row_right, finish_row_test, finish_row_right}

-- the test passes at every row
abbrev all_pass : {A : Type 0} → (A → Bool) → List A → Bool
all_pass test [] = true
all_pass test (row ∷ rows) = test row && all_pass test rows

all_right : {A : Type 0} (test : A → Bool) (Right : A → Type 0) → ((row : A) → test row ≡ true → Right row) →
    (rows : List A) → all_pass test rows ≡ true → AllByRecursion Right rows
all_right test Right right [] h = tt
all_right test Right right (row ∷ rows) h =
    let parts = and_parts (test row) (all_pass test rows) h in
    (right row parts.0, all_right test Right right rows parts.1)

-- the test passes at every row of both tables
tables_pass : (all_pass worst_row_test worst_rows && all_pass finish_row_test finish_rows) ≡ true
tables_pass = refl

each_passes : (all_pass worst_row_test worst_rows ≡ true) × (all_pass finish_row_test finish_rows ≡ true)
each_passes = and_parts (all_pass worst_row_test worst_rows) (all_pass finish_row_test finish_rows) tables_pass

pub worst_figures : WorstFigures
worst_figures = all_right worst_row_test WorstRight worst_row_right worst_rows each_passes.0

pub finish_figures : FinishFigures
finish_figures = all_right finish_row_test FinishRight finish_row_right finish_rows each_passes.1
