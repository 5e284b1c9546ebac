-- Jobs of which no two have the same ticket.
use Rattle.std.proofs.Common.{◌≡◌, ℕ, zero, suc, ◌+◌, ◌<◌, ◌≢◌, List, [], ◌∷◌, length, get_or, drop, sym, ap, ◌∙◌, subst, add-one, drop-cons}
use mathlib.Core.Path.{subst⁻¹}
use Rattle.calls.specs.declared.call.Job.{Job}
use Rattle.schedules.specs.World.{Distinct, nobody}
use Rattle.std.specs.List.{AllByRecursion}

-- what is distinct is so from each place on
distinct_from : (n : ℕ) (js : List Job) → Distinct js → Distinct (drop n js)
distinct_from zero js d = d
distinct_from (suc n) [] d = tt
distinct_from (suc n) (j ∷ js) d = distinct_from n js d.1

-- and the job at a place has another ticket than those behind it
pub distinct_at : (n : ℕ) (js tail : List Job) → n < length js → tail ≡ drop (n + 1) js → Distinct js → AllByRecursion (λ j. (get_or js n nobody).ticket ≢ j.ticket) tail
distinct_at n js tail within is d =
    let place : drop n js ≡ get_or js n nobody ∷ drop (n + 1) js = drop-cons js n nobody within ∙ ap (λ k. get_or js n nobody ∷ drop k js) (sym (add-one n)) in
    let from : Distinct (get_or js n nobody ∷ drop (n + 1) js) = subst Distinct place (distinct_from n js d) in
    subst⁻¹ (AllByRecursion (λ j. (get_or js n nobody).ticket ≢ j.ticket)) is from.0
