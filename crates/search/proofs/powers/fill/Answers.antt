use Rattle.std.proofs.Common.{◌≡◌, ◌+◌, ◌-◌, [], get_or, set, ◌∙◌, subst, rules, arith, below_more, get_or-set_same}
use mathlib.Core.Path.{subst⁻¹}
use Rattle.std.proofs.lemmas.List.{get_or-append_right, get_or_append_left}
use Rattle.search.specs.Powers.{Leads}
use Rattle.search.proofs.powers.fill.Goals as goal

pub twice_as_many-requires : goal.twice_as_many-requires
twice_as_many-requires g c =
    let before : Leads (g.R.Rule.model c.args.rule.now) (c.loop-power.power - 1) (get_or c.split_at_mut-done.result.0.now (c.loop-power.power - 1) []) = λ s h. search rules in
    (c.loop-power.power - 1, before)

pub loop-power-preserved : goal.loop-power-preserved
loop-power-preserved g c =
    let m = g.R.Rule.model c.args.rule.now in
    let half = c.loop-power.power - 1 in
    let front = c.split_at_mut-done.result.0.now in
    let back = c.split_at_mut-done.result.1.now in
    let row = c.twice_as_many.new.row in
    let before : Leads m half (get_or front half []) = λ s h. search rules in
    let more : half + 1 ≡ c.loop-power.power = omega arith in
    let next : Leads m c.loop-power.power row = subst (λ n. Leads m n row) more (c.twice_as_many.ensures half before) in
    let none : 0 ≡ c.loop-power.power - c.loop-power.power = omega arith in
    let first : get_or (set back 0 row) (c.loop-power.power - c.loop-power.power) [] ≡ row =
    subst (λ i. get_or (set back 0 row) i [] ≡ row) none (get_or-set_same back 0 row [] (omega arith)) in
    below_more _ _
    (λ k h. subst⁻¹ (Leads m k) (get_or_append_left front (set back 0 row) [] k (omega arith)) (λ s i. search rules))
    (subst⁻¹ (Leads m c.loop-power.power) (get_or-append_right front (set back 0 row) c.loop-power.power c.loop-power.power [] (omega arith) (omega arith) ∙ first) next)
