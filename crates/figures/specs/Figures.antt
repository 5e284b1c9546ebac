-- The worked figures: two tables, and that each of their rows is right.
use Rattle.std.specs.Prelude.{ℕ, List, [], ◌∷◌}
use Rattle.std.specs.List.{AllByRecursion}
use Rattle.figures.specs.Rows.{WorstRow, FinishRow, WorstRight, FinishRight, count_of, gap_of, count_and_gap, at_the_end, at_the_fault, worst_row, finish_row}

-- jobs of these lengths, all released at 0
abbrev pub at_once : List ℕ → List (ℕ × ℕ)
at_once [] = []
at_once (p ∷ ps) = (0, p) ∷ at_once ps

-- Worst finishes. In the row of gap 4 the second job's is 8 and not 6, as it would be if one fault were all that the two jobs can meet: faults in the
-- quarters 2 and 6 hit both.
abbrev pub worst_rows : List WorstRow
worst_rows =
    worst_row (count_of 0) at_the_end (at_once (4 ∷ 2 ∷ 6 ∷ [])) (4 ∷ 6 ∷ 12 ∷ [])
    ∷ worst_row (count_of 1) at_the_end (at_once (4 ∷ 2 ∷ 6 ∷ [])) (8 ∷ 10 ∷ 18 ∷ [])
    ∷ worst_row (count_of 2) at_the_end (at_once (4 ∷ 2 ∷ 6 ∷ [])) (12 ∷ 14 ∷ 24 ∷ [])
    ∷ worst_row (gap_of 5) at_the_end (at_once (2 ∷ 2 ∷ 2 ∷ [])) (4 ∷ 8 ∷ 10 ∷ [])
    ∷ worst_row (gap_of 5) at_the_fault (at_once (2 ∷ 2 ∷ 2 ∷ [])) (4 ∷ 6 ∷ 10 ∷ [])
    ∷ worst_row (gap_of 4) at_the_fault (at_once (2 ∷ 2 ∷ 2 ∷ [])) (4 ∷ 8 ∷ 12 ∷ [])
    ∷ worst_row (count_and_gap 1 5) at_the_end (at_once (2 ∷ 2 ∷ 2 ∷ [])) (4 ∷ 6 ∷ 8 ∷ [])
    ∷ worst_row (gap_of 6) at_the_end ((0, 2) ∷ (3, 2) ∷ (6, 2) ∷ []) (4 ∷ 7 ∷ 10 ∷ [])
    ∷ []

-- Finishes under given faults. In the last two rows the job and the fault are the same, and the later release gives the earlier finish: under one fixed
-- list of faults a delay can help.
abbrev pub finish_rows : List FinishRow
finish_rows =
    finish_row at_the_end (0, 3) (3 ∷ []) 6
    ∷ finish_row at_the_fault (0, 3) (3 ∷ []) 6
    ∷ finish_row at_the_end (0, 3) (4 ∷ []) 3
    ∷ finish_row at_the_fault (0, 3) (4 ∷ []) 3
    ∷ finish_row at_the_end (0, 4) (1 ∷ 3 ∷ []) 8
    ∷ finish_row at_the_fault (0, 4) (1 ∷ 3 ∷ []) 7
    ∷ finish_row at_the_end (5, 2) (5 ∷ []) 7
    ∷ finish_row at_the_fault (5, 2) (5 ∷ []) 7
    ∷ finish_row at_the_end (0, 3) (1 ∷ []) 6
    ∷ finish_row at_the_end (2, 3) (1 ∷ []) 5
    ∷ []

-- every row of worst finishes is right
abbrev pub WorstFigures : Type 0
WorstFigures = AllByRecursion WorstRight worst_rows

-- every row of finishes is right
abbrev pub FinishFigures : Type 0
FinishFigures = AllByRecursion FinishRight finish_rows
