-- The test of a row, and that a row that passes it is right.
use Rattle.std.proofs.Common.{◌≡◌, ℕ, zero, suc, ◌<◌, ◌≤◌, max, Bool, true, false, ◌&&◌, eqb, ltb, leb, List, [], ◌∷◌, length, get_or, refl, ap, ◌∙◌, subst, inl, inr, arith}
use mathlib.Core.Path.{subst⁻¹}
use Rattle.std.specs.List.{AllByRecursion}
use Rattle.std.proofs.lemmas.Bool.{and_parts, cases_lt, false≢true, leb-true, ltb-true, eqb-true}
use Rattle.std.proofs.lemmas.Bool.Decides.{nat_tests}
use Rattle.calls.specs.declared.call.Job.{Job}
use Rattle.rules.specs.Model.{Model}
use Rattle.rules.specs.Faults.{Allowed, Increasing}
use Rattle.inspections.specs.Verdict.{Verdict, Bounded}
use Rattle.schedules.specs.Lists.{Pairs}
use Rattle.schedules.specs.Runs.{completion, finishes}
use Rattle.schedules.specs.World.{World, Distinct, nobody}
use Rattle.schedules.specs.Walk.{Gives, Finish}
use Rattle.schedules.specs.Plans.{Worst, earliest, timed, planned}
use Rattle.schedules.specs.Foreseen.{slots}
use Rattle.schedules.specs.Ready.{Ready}
use Rattle.schedules.proofs.Lists.{pairs_at, greatest, within_greatest}
use Rattle.schedules.proofs.Bridge.{bridge}
use Rattle.schedules.proofs.Planned.{allowed_increasing, least_unique, plan_finishes, earliest_plan, earliest_same}
use Rattle.figures.specs.Rows.{InspectionName, at_the_end, at_the_fault, verdict_of, model_of, jobs_from, fresh, WorstRow, worst_row, WorstRight, FinishRow, finish_row, FinishRight}
use Rattle.figures.proofs.Fronts.{every, some, every_front, some_allowed}
use Rattle.figures.proofs.Unmoved.{finishes_unmoved}

bounded_of : (i : InspectionName) → Bounded (verdict_of i)
bounded_of at_the_end = record {
  from_fault = λ p x h k. grind (arith, nat_tests);
  to_end = λ p x h k. grind (arith, nat_tests);
  before = λ p. grind (arith, nat_tests);
  after = λ p x h. grind (arith, nat_tests);
}
bounded_of at_the_fault = record {
  from_fault = λ p x h k. grind (arith, nat_tests);
  to_end = λ p x h k. grind (arith, nat_tests);
  before = λ p. grind (arith, nat_tests);
  after = λ p x h. grind (arith, nat_tests);
}

-- no job is empty
abbrev pub all_long : List (ℕ × ℕ) → Bool
all_long [] = true
all_long ((release, p) ∷ js) = leb 1 p && all_long js

long_from : (t : ℕ) (js : List (ℕ × ℕ)) → all_long js ≡ true → AllByRecursion (λ j. 1 ≤ j.length) (jobs_from t js)
long_from t [] h = tt
long_from t ((release, p) ∷ js) h =
    let parts = and_parts (leb 1 p) (all_long js) h in
    (leb-true 1 p parts.0, long_from (suc t) js parts.1)

other_tickets : (t u : ℕ) (js : List (ℕ × ℕ)) → u < t → AllByRecursion (λ k. u ≡ k.ticket → ⊥) (jobs_from t js)
other_tickets t u [] h = tt
other_tickets t u ((release, p) ∷ js) h = (λ e. omega arith, other_tickets (suc t) u js (omega arith))

distinct_from : (t : ℕ) (js : List (ℕ × ℕ)) → Distinct (jobs_from t js)
distinct_from t [] = tt
distinct_from t ((release, p) ∷ js) = (other_tickets (suc t) t js (omega arith), distinct_from (suc t) js)

fresh_ready : (s : ℕ) (js : List (ℕ × ℕ)) → all_long js ≡ true → Ready (fresh s (jobs_from 1 js))
fresh_ready s js h = record { run = tt; long = long_from 1 js h; distinct = distinct_from 1 js }

-- the lists are as long, and no number of the first is over its number in the second
abbrev pub none_over : List ℕ → List ℕ → Bool
none_over [] [] = true
none_over [] (y ∷ ys) = false
none_over (x ∷ xs) [] = false
none_over (x ∷ xs) (y ∷ ys) = leb x y && none_over xs ys

abbrev UpTo : ℕ → ℕ → Type 0
UpTo x y = x ≤ y

none_over_pairs : (xs ys : List ℕ) → none_over xs ys ≡ true → Pairs UpTo xs ys
none_over_pairs [] [] h = tt
none_over_pairs [] (y ∷ ys) h = false≢true h
none_over_pairs (x ∷ xs) [] h = false≢true h
none_over_pairs (x ∷ xs) (y ∷ ys) h =
    let parts = and_parts (leb x y) (none_over xs ys) h in
    (leb-true x y parts.0, none_over_pairs xs ys parts.1)

up_to_all : (n : ℕ) (xs ys : List ℕ) → Pairs UpTo xs ys → AllByRecursion (λ y. y ≤ n) ys → AllByRecursion (λ x. x ≤ n) xs
up_to_all n [] ys p a = tt
up_to_all n (x ∷ xs) [] p a = absurd p
up_to_all n (x ∷ xs) (y ∷ ys) p a = (omega (arith, p.0, a.0), up_to_all n xs ys p.1 a.1)

pairs_length : {A B : Type 0} (R : A → B → Type 0) (xs : List A) (ys : List B) → Pairs R xs ys → length xs ≡ length ys
pairs_length R [] [] p = refl
pairs_length R [] (y ∷ ys) p = absurd p
pairs_length R (x ∷ xs) [] p = absurd p
pairs_length R (x ∷ xs) (y ∷ ys) p = ap suc (pairs_length R xs ys p.1)

pairs_from : {A B : Type 0} (R : A → B → Type 0) (xs : List A) (ys : List B) (d : A) (e : B) → length xs ≡ length ys →
    ((i : ℕ) → i < length xs → R (get_or xs i d) (get_or ys i e)) → Pairs R xs ys
pairs_from R [] [] d e l h = tt
pairs_from R [] (y ∷ ys) d e l h = absurd (omega arith)
pairs_from R (x ∷ xs) [] d e l h = absurd (omega arith)
pairs_from R (x ∷ xs) (y ∷ ys) d e l h = (h 0 (omega arith), pairs_from R xs ys d e (omega arith) (λ i k. h (suc i) (omega arith)))

module _ (m : Model) (V : Verdict) (jobs : List (ℕ × ℕ)) (numbers : List ℕ) where
  -- the finishes under a list of faults
  abbrev times : List ℕ → List ℕ
  times f = finishes V 0 (slots (jobs_from 1 jobs)) f

  -- under some list of faults up to the greatest number, the job at the place finishes at its number
  abbrev reached : ℕ → Bool
  reached i = some m (greatest numbers) m.opening 0 (λ f. eqb (get_or (times f) i 0) (get_or numbers i 0))

  -- this holds at each place before n
  abbrev all_reached : ℕ → Bool
  all_reached zero = true
  all_reached (suc i) = reached i && all_reached i

  -- under every list of faults up to the greatest number, no job finishes after its number
  abbrev none_later : Bool
  none_later = every m (greatest numbers) m.opening 0 (λ f. none_over (times f) numbers)

  -- no job is empty, and no number is past the last quarter
  abbrev fitting : Bool
  fitting = all_long jobs && leb (greatest numbers) 4096

  -- all three
  abbrev pub worst_test : Bool
  worst_test = fitting && (none_later && all_reached (length numbers))

  all_reached_at : (n i : ℕ) → i < n → all_reached n ≡ true → reached i ≡ true
  all_reached_at zero i h e = absurd (omega arith)
  all_reached_at (suc n) i h e =
      let parts = and_parts (reached n) (all_reached n) e in
      elim (cases_lt i n) [
        | inl before ↦ all_reached_at n i before parts.1
        | inr last ↦ let here : i ≡ n = omega arith in subst⁻¹ (λ k. reached k ≡ true) here parts.0
      ]

  module _ (bounded : Bounded V) (passes : worst_test ≡ true) where
    abbrev js : List Job
    js = jobs_from 1 jobs

    abbrev board : World
    board = fresh m.opening []

    abbrev Allows : List ℕ → Type 0
    Allows f = Allowed m m.opening 0 f

    -- the job finishes at q
    abbrev Ends : List ℕ → Job → ℕ → Type 0
    Ends f j q = Finish V f (planned board js (earliest 0 js)) j.ticket q

    -- the three tests of a row
    tests : (fitting ≡ true) × (none_later ≡ true) × (all_reached (length numbers) ≡ true)
    tests =
        let first = and_parts fitting (none_later && all_reached (length numbers)) passes in
        let second = and_parts none_later (all_reached (length numbers)) first.1 in
        (first.0, second.0, second.1)

    fits : (all_long jobs ≡ true) × (leb (greatest numbers) 4096 ≡ true)
    fits = and_parts (all_long jobs) (leb (greatest numbers) 4096) tests.0

    -- quarter by quarter, the jobs finish when the runs have them finish
    in_walk : (f : List ℕ) → Allows f → Pairs (Ends f) js (times f)
    in_walk f a =
        subst (λ l. Pairs (Ends f) js l) (earliest_same V bounded 0 0 js f (omega arith))
        (plan_finishes V bounded board js (earliest 0 js) (fresh_ready m.opening jobs fits.0) (earliest_plan 0 js) f (allowed_increasing m m.opening 0 f a))

    -- under no allowed list a job finishes after its number
    no_later : (f : List ℕ) → Allows f → Pairs UpTo (times f) numbers
    no_later f a =
        let N = greatest numbers in
        let found = every_front m N m.opening 0 N (λ g. none_over (times g) numbers) (omega arith) tests.1 f a in
        let below = none_over_pairs (times found.front) numbers found.passes in
        let same = finishes_unmoved V N found.rest found.beyond 0 (slots js) found.front
        (up_to_all N (times found.front) numbers below (within_greatest numbers N (omega arith))) in
        subst⁻¹ (λ l. Pairs UpTo l numbers) (ap times found.parts ∙ same) below

    times_length : (f : List ℕ) → Allows f → length js ≡ length (times f)
    times_length f a = pairs_length (Ends f) js (times f) (in_walk f a)

    numbers_length : length js ≡ length numbers
    numbers_length = times_length [] tt ∙ pairs_length UpTo (times []) numbers (no_later [] tt)

    module _ (i : ℕ) (h : i < length js) where
      abbrev job : Job
      job = get_or js i nobody

      at_place : (f : List ℕ) → Allows f → Ends f job (get_or (times f) i 0)
      at_place f a = pairs_at (Ends f) js (times f) i nobody 0 h (in_walk f a)

      reached_at : (f : List ℕ) × Allows f × Ends f job (get_or numbers i 0)
      reached_at =
          let small = leb-true (greatest numbers) 4096 fits.1 in
          let passed = all_reached_at (length numbers) i (omega (arith, numbers_length)) tests.2 in
          let found = some_allowed m (greatest numbers) m.opening 0 (λ f. eqb (get_or (times f) i 0) (get_or numbers i 0)) (omega arith) passed in
          let same = eqb-true (get_or (times found.0) i 0) (get_or numbers i 0) found.2 in
          (found.0, found.1, subst (Ends found.0 job) same (at_place found.0 found.1))

      not_exceeded_at : (f : List ℕ) (q : ℕ) → Allows f → Ends f job q → q ≤ get_or numbers i 0
      not_exceeded_at f q a ends =
          let same = least_unique (Gives V f 0 board.machine (timed js (earliest 0 js)) job.ticket) q (get_or (times f) i 0) ends (at_place f a) in
          let by = pairs_at UpTo (times f) numbers i 0 0 (omega (arith, times_length f a)) (no_later f a) in
          omega arith

      -- the number at the place is the worst finish of the job there
      worst_at : Worst m V board js (earliest 0 js) job.ticket (get_or numbers i 0)
      worst_at = (reached_at, not_exceeded_at)

    pub worst_each : Pairs (λ j q. Worst m V board js (earliest 0 js) j.ticket q) js numbers
    worst_each = pairs_from (λ j q. Worst m V board js (earliest 0 js) j.ticket q) js numbers nobody 0 numbers_length worst_at

-- the test of a row of worst finishes
abbrev pub worst_row_test : WorstRow → Bool
worst_row_test (worst_row rule inspection jobs numbers) = worst_test (model_of rule) (verdict_of inspection) jobs numbers

pub worst_row_right : (row : WorstRow) → worst_row_test row ≡ true → WorstRight row
worst_row_right (worst_row rule inspection jobs numbers) h = worst_each (model_of rule) (verdict_of inspection) jobs numbers (bounded_of inspection) h

-- the faults are in order, and after the clock c
abbrev pub in_order : ℕ → List ℕ → Bool
in_order c [] = true
in_order c (q ∷ f) = ltb c q && in_order q f

increasing : (c : ℕ) (f : List ℕ) → in_order c f ≡ true → Increasing c f
increasing c [] h = tt
increasing c (q ∷ f) h =
    let parts = and_parts (ltb c q) (in_order q f) h in
    (ltb-true c q parts.0, increasing q f parts.1)

-- the test of a row of a finish
abbrev pub finish_row_test : FinishRow → Bool
finish_row_test (finish_row inspection (release, p) faults number) =
    all_long ((release, p) ∷ []) && (in_order 0 faults && eqb (completion (verdict_of inspection) p (max release 0) faults) number)

pub finish_row_right : (row : FinishRow) → finish_row_test row ≡ true → FinishRight row
finish_row_right (finish_row inspection (release, p) faults number) h = λ s.
    let V = verdict_of inspection in
    let C = completion V p (max release 0) faults in
    let first = and_parts (all_long ((release, p) ∷ [])) (in_order 0 faults && eqb C number) h in
    let second = and_parts (in_order 0 faults) (eqb C number) first.1 in
    let w = fresh s (jobs_from 1 ((release, p) ∷ [])) in
    subst (λ q. Finish V faults w 1 q) (eqb-true C number second.1)
    (bridge V (bounded_of inspection) w (fresh_ready s ((release, p) ∷ []) first.0) faults (increasing 0 faults second.0)).0
