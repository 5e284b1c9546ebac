-- What a quarter makes of the faults that a board has seen.
use Rattle.std.proofs.Common.{◌≡◌, ℕ, ◌<◌, ltb, List, Some, None, Ok, Err, Option, Result, unwrap_or, sym, refl, ap, ◌∙◌, subst, arith}
use Rattle.board.proofs.Leading.{allowed_leads, leads_allowed, leads_clean, leads_spoiled, leads_stay}
use Rattle.board.specs.Faults.{Seen}
use Rattle.board.specs.declared.moment.Moment.{Moment}
use Rattle.board.specs.Quarters.{PassSeen, Quarter, SpoilSeen, SpoiledAfter, at_next, before_end, ended_in, one_more, passed, spoiled, spoiled_to}
use Rattle.calls.specs.declared.answer.Event.{Event}
use Rattle.calls.specs.declared.answer.Event.TheVariants.{Idle}
use Rattle.calls.specs.declared.refusal.Refusal.{Refusal}
use Rattle.calls.specs.declared.refusal.Refusal.TheVariants.{FaultForbidden}
use Rattle.rules.specs.Faults.{Allowed}
use Rattle.rules.specs.Model.{Laws, Model, after_spoiled}
use Rattle.std.specs.Option.{ok_or}
use Rattle.std.proofs.lemmas.Bool.{cond-true, lt-ltb}
use Rattle.std.proofs.lemmas.Option.{none-some}

err_ok : ◌≡◌ {A = Result Event Refusal} (Err FaultForbidden) (Ok Idle) → ⊥
err_ok e = grind arith

-- what the rule permits is what the quarter ends in
permitted : (w : Moment) (o : Option ℕ) → ended_in w (ok_or o FaultForbidden) ≡ spoiled_to w o
permitted w None = refl
permitted w (Some state) = refl

-- nothing but the clock's end keeps a quarter from coming
before : (w : Moment) (q : Quarter) → w.clock < 4096 → before_end w q ≡ q
before w q room = cond-true (ltb w.clock 4096) q _ (lt-ltb w.clock 4096 room)

pub ended_spoiled : (m : Model) (w : Moment) (q : Quarter) (o : Option ℕ) (r : Result ℕ Refusal) → w.clock < 4096 → o ≡ after_spoiled m w.state → r ≡ ok_or o FaultForbidden →
    q ≡ ended_in w r → q ≡ spoiled m w
ended_spoiled m w q o r room by is e = e ∙ ap (ended_in w) is ∙ permitted w o ∙ ap (spoiled_to w) by ∙ sym (before w _ room)

module _ (m : Model) (laws : Laws m) where
  -- the state of a board that has seen faults is a state of the rule
  inside : (w : Moment) (f : List ℕ) → 0 < m.size → Seen m f w → w.state < m.size
  inside w f some seen = leads_stay m laws m.opening 0 w.clock w.state f (laws.opens some) seen

  pub pass_seen : (w : Moment) (q : Quarter) → q ≡ passed m w → PassSeen m w q
  pass_seen w q e f some seen room =
      let is = e ∙ before w _ room in
      let state : w.state < m.size = inside w f some seen in
      let clean = cond-true (ltb w.state m.size) (Some (m.clean w.state)) None (lt-ltb w.state m.size state) in
      let next : q.after ≡ at_next w (m.clean w.state) = ap (λ (x : Quarter). x.after) is ∙ ap (λ o. at_next w (unwrap_or o w.state)) clean in
      let led = leads_clean m m.opening 0 w.clock w.state f seen in
      (ap (λ (x : Quarter). x.answer) is, ap (λ (v : Moment). v.clock) next, subst (Seen m f) (sym next) led)

  -- by what the rule answers
  spoiled_by : (w : Moment) (q : Quarter) (f : List ℕ) (o : Option ℕ) → m.spoiled w.state ≡ o → q ≡ spoiled_to w o → Seen m f w → w.clock < 4096 →
      SpoiledAfter m w q f
  spoiled_by w q f None permitted is seen room =
      let answer : q.answer ≡ Err FaultForbidden = ap (λ (x : Quarter). x.answer) is in
      let never : Allowed m m.opening 0 (one_more f w) → ⊥ = λ a.
      let v = allowed_leads m m.opening 0 w.clock w.state f seen a in none-some v.0 (sym permitted ∙ v.1) in record {
        allowed = (λ e. absurd (err_ok (sym answer ∙ e)), λ a. absurd (never a));
        seen = λ e. absurd (err_ok (sym answer ∙ e));
        forbidden = (λ e. never, λ n. answer);
        still = λ e. ap (λ (x : Quarter). x.after) is;
      }
  spoiled_by w q f (Some t) permitted is seen room =
      let answer : q.answer ≡ Ok Idle = ap (λ (x : Quarter). x.answer) is in
      let yes : Allowed m m.opening 0 (one_more f w) = leads_allowed m m.opening 0 w.clock w.state t f seen room permitted in
      let next : q.after ≡ at_next w t = ap (λ (x : Quarter). x.after) is in
      let led = leads_spoiled m m.opening 0 w.clock w.state t f seen permitted in record {
        allowed = (λ e. yes, λ a. answer);
        seen = λ e. (ap (λ (v : Moment). v.clock) next, subst (Seen m (one_more f w)) (sym next) led);
        forbidden = (λ e. absurd (err_ok (sym e ∙ answer)), λ n. absurd (n yes));
        still = λ e. absurd (err_ok (sym e ∙ answer));
      }

  pub spoil_seen : (w : Moment) (q : Quarter) → q ≡ spoiled m w → SpoilSeen m w q
  spoil_seen w q e f some seen room =
      let state = inside w f some seen in
      let steps = cond-true (ltb w.state m.size) (m.spoiled w.state) None (lt-ltb w.state m.size state) in
      spoiled_by w q f (m.spoiled w.state) refl (e ∙ before w _ room ∙ ap (spoiled_to w) steps) seen room
