use Rattle.std.proofs.Common.{◌≡◌, Option, MatchOption, Some, None, rules, arith, of_calls}
use mathlib.Core.Path.{subst⁻¹}
use Rattle.search.proofs.rows.next_pending.Goals as goal

-- what holds of the first of two options, or where there is none of the second
either : {T : Type 0} (A N Q : Type 0) (P P' : T → Type 0) (a r : Option T) → ((x : T) → P x → P' x) → MatchOption a A P → MatchOption a Q (λ x. r ≡ Some x) →
    (A → Q → MatchOption r N P') → MatchOption r N P'
either A N Q P P' None r more found same other = other found same
either A N Q P P' (Some x) r more found same other = subst⁻¹ (λ o. MatchOption o N P') same (more x found)

pub returns-in-Down : goal.returns-in-Down
returns-in-Down c = either _ _ _ _ _ c.down.result c.or_else.result (λ x p. (omega (arith, p.0), p.1)) c.down.ensures c.or_else.ensures (λ none post. search (rules, of_calls, none, post))

pub returns-in-Up : goal.returns-in-Up
returns-in-Up c = either _ _ _ _ _ c.up.result c.or_else-in-Up.result (λ x p. p) c.up.ensures c.or_else-in-Up.ensures (λ none post. search (rules, of_calls, none, post))
