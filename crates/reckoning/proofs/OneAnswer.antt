-- A call has at most one answer.
use Rattle.std.proofs.Common.{◌≡◌, ℕ, List, [], ◌∷◌, ◌++◌, Some, Option, sym, ap, ◌∙◌, subst, inl, inr, arith, Ok, Err, Result}
use Rattle.rules.specs.Model.{Model}
use Rattle.inspections.specs.Verdict.{Verdict}
use Rattle.schedules.specs.Lists.{If, First}
use Rattle.calls.specs.declared.call.Job.{Job}
use Rattle.schedules.specs.World.{World, on_machine}
use Rattle.schedules.specs.declared.run.Kind.TheVariants.{Spoiled}
use Rattle.schedules.specs.Plans.{earliest, planned, CanBeLate, Worst, proposed}
use Rattle.reckoning.specs.Log.{book, withdraw, pass, spoil, one_quarter, Reckons}
use Rattle.calls.specs.declared.answer.Answer.{Answer}
use Rattle.calls.specs.declared.answer.Answer.TheVariants.{Taken}
use Rattle.calls.specs.declared.refusal.Refusal.{Refusal}
use Rattle.reckoning.specs.Theorems.{OneAnswer, OneWorld}
use Rattle.calls.specs.declared.refusal.Refusal.TheVariants.{BoardFull, ClockEnded, FaultForbidden, Late, OutsideLimits, PlaceTooFar, TableTooShort, TicketOnMachine, TicketTaken, TicketUnknown}

-- two readings of the same case distinction
both : (P A B C D X : Type 0) → If P A B → If P C D → (A → C → X) → (B → D → X) → X
both P A B C D X (inl (p, a)) (inl (q, c)) f g = f a c
both P A B C D X (inl (p, a)) (inr (n, d)) f g = absurd (n p)
both P A B C D X (inr (n, b)) (inl (q, c)) f g = absurd (n q)
both P A B C D X (inr (n, b)) (inr (k, d)) f g = g b d

-- two equations with one right side
abbrev Same : Result Answer Refusal → Result Answer Refusal → World → World → Type 0
Same a b u v = (a ≡ b) × (u ≡ v)

joined : (a b x : Result Answer Refusal) (u v y : World) → (a ≡ x) × (u ≡ y) → (b ≡ x) × (v ≡ y) → Same a b u v
joined a b x u v y p q = (p.0 ∙ sym q.0, p.1 ∙ sym q.1)

first_one : (P : Job → Type 0) (js : List Job) (s t : ℕ) → First P (λ j. j.ticket ≡ s) js → First P (λ j. j.ticket ≡ t) js → s ≡ t
first_one P [] s t f g = absurd f
first_one P (j ∷ js) s t (inl (_, e)) (inl (_, k)) = sym e ∙ k
first_one P (j ∷ js) s t (inl (p, _)) (inr (n, _)) = absurd (n p)
first_one P (j ∷ js) s t (inr (n, _)) (inl (p, _)) = absurd (n p)
first_one P (j ∷ js) s t (inr (_, f)) (inr (_, g)) = first_one P js s t f g

worst_one : (m : Model) (V : Verdict) (w : World) (jobs : List Job) (starts : List ℕ) (t c d : ℕ) → Worst m V w jobs starts t c → Worst m V w jobs starts t d → c ≡ d
worst_one m V w jobs starts t c d ((f, a, ends), most) ((g, b, ends'), most') =
    let up = most' f c a ends in
    let down = most g d b ends' in
    omega arith

pub same_state : (o : Option ℕ) (s t : ℕ) → o ≡ Some s → o ≡ Some t → s ≡ t
same_state o s t p q = cc

pub one_answer : (m : Model) → OneAnswer m
one_answer m V w pass a b u v r r' =
    both _ _ _ _ _ (Same a b u v) r r' (joined a b (Err ClockEnded) u v w) (λ p q. (p.0 ∙ sym q.0, p.1 ∙ sym q.1))
one_answer m V w spoil a b u v r r' =
    both _ _ _ _ _ (Same a b u v) r r' (joined a b (Err ClockEnded) u v w) (λ n n'.
    both _ _ _ _ _ (Same a b u v) n n' (joined a b (Err FaultForbidden) u v w) (λ (s, is, (p, next)) (t, is', (q, next')).
    (p ∙ sym q, next ∙ ap (one_quarter V Spoiled w) (same_state (m.spoiled w.state) s t is is') ∙ sym next')))
one_answer m V w (withdraw t) a b u v r r' =
    both _ _ _ _ _ (Same a b u v) r r' (joined a b (Err TicketUnknown) u v w) (λ n n'.
    both _ _ _ _ _ (Same a b u v) n n' (joined a b (Err TicketOnMachine) u v w) (λ p q. (p.0 ∙ sym q.0, p.1 ∙ sym q.1)))
one_answer m V w (book room place j) a b u v r r' =
    let jobs = proposed place j w.waiting in
    let starts = earliest w.clock jobs in
    both _ _ _ _ _ (Same a b u v) r r' (joined a b (Err OutsideLimits) u v w) (λ r₁ s₁.
    both _ _ _ _ _ (Same a b u v) r₁ s₁ (joined a b (Err TicketTaken) u v w) (λ r₂ s₂.
    both _ _ _ _ _ (Same a b u v) r₂ s₂ (joined a b (Err BoardFull) u v w) (λ r₃ s₃.
    both _ _ _ _ _ (Same a b u v) r₃ s₃ (joined a b (Err PlaceTooFar) u v w) (λ r₄ s₄.
    both _ _ _ _ _ (Same a b u v) r₄ s₄ (joined a b (Err TableTooShort) u v w) (λ r₅ s₅.
    both _ _ _ _ _ (Same a b u v) r₅ s₅
    (λ (s, late, (p, same)) (t, late', (q, same')).
    let e = first_one (CanBeLate m V (planned w jobs starts)) (on_machine w.machine ++ jobs) s t late late' in
    (p ∙ ap (λ x. Err (Late x)) e ∙ sym q, same ∙ sym same'))
    (λ (c, worst, p, next) (d, worst', q, next').
    (p ∙ ap (λ x. Ok (Taken x)) (worst_one m V w jobs starts j.ticket c d worst worst') ∙ sym q, next ∙ sym next')))))))

pub one_world : (m : Model) → OneWorld m
one_world m V [] u v p q = p ∙ sym q
one_world m V (e ∷ log) u v (x, led, reckons) (y, led', reckons') =
    let same : x ≡ y = one_world m V log x y led led' in
    (one_answer m V y e.call e.answer e.answer u v (subst (λ z. Reckons m V z e.call e.answer u) same reckons) reckons').1
