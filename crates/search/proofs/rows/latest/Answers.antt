use Rattle.std.proofs.Common.{◌≡◌, ℕ, ◌<◌, ◌≤◌, List, length, get_or, take, sym, ◌∙◌, rules, arith, length-take}
use Rattle.std.proofs.iter.runs.Made.{chains}
use Rattle.std.proofs.lemmas.List.{get_or-take}
use Rattle.search.proofs.rows.latest.Goals as goal

-- what bounds the first n numbers
bounds_front : (row : List ℕ) (n most : ℕ) → n ≤ length row → ((k : ℕ) → k < length (take n row) → get_or (take n row) k 0 ≤ most) → (k : ℕ) → k < n → get_or row k 0 ≤ most
bounds_front row n most long below k h =
    let inside : k < length (take n row) = simp length-take (omega arith) in
    omega (arith, below k inside, get_or-take n row k 0 h)

-- one of the first n numbers
stands_in_front : (row : List ℕ) (n most : ℕ) → (k : ℕ) × (k < length (take n row)) × (get_or (take n row) k 0 ≡ most) → (k : ℕ) × (k < n) × (get_or row k 0 ≡ most)
stands_in_front row n most (k, h, e) =
    let inside : k < n = omega (arith, simp length-take at h) in
    (k, inside, sym (get_or-take n row k 0 inside) ∙ e)

pub returns-clause-most : goal.returns-clause-most
returns-clause-most c s t h i =
    let bound = bounds_front c.args.row.now c.args.states c.unwrap_or.result (omega arith) (λ k h. search (rules, chains)) s h in
    omega arith

pub returns-clause-reached : goal.returns-clause-reached
returns-clause-reached c s t h i =
    let bound = bounds_front c.args.row.now c.args.states c.unwrap_or.result (omega arith) (λ k h. search (rules, chains)) s h in
    let (k, inside, most) = stands_in_front c.args.row.now c.args.states c.unwrap_or.result (search (rules, chains)) in
    (k, inside, omega arith)
