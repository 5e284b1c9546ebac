-- A line says a call just where it is the call's text.
use Rattle.std.proofs.Common.{◌≡◌, ℕ, ◌*◌, ◌<◌, ◌≤◌, cond, eqb, ◌⊎◌, List, [], ◌∷◌, map, length, Ok, decimal, sym, refl, ap, ◌∙◌, subst, ap₂, inl, inr, arith, length-append}
use Rattle.std.proofs.lemmas.Fmt.{length-decimal-le}
use Rattle.std.proofs.lemmas.List.{length-map}
use Rattle.std.proofs.lemmas.List.Elements.{All-from_recursion, All-map, All-weaker, recursion_from_All}
use Rattle.std.proofs.lemmas.Bool.{cases_Bool, cond-false, cond-true, eqb-true}
use Rattle.std.specs.List.{AllByRecursion}
use Rattle.calls.specs.declared.call.Call.{Call}
use Rattle.calls.specs.declared.call.Call.TheVariants.{Book, Pass, Spoil, Withdraw}
use Rattle.shift_text.specs.Fields.{Field, first, number}
use Rattle.shift_text.specs.Lines.{at_field, book, by_letter, call, ended, lettered, withdraw}
use Rattle.shift_text.specs.Texts.{Writable, letter, line_of, numbers, tabs, text}
use Rattle.shift_text.proofs.Inverting.{at_field_ok, ended_ok, lettered_some, number_some, some_lettered, some_number}
use Rattle.shift_text.proofs.Splitting.{Whole, whole_decimal}

-- the letter and the fields are those of the call, whose numbers are small
abbrev Says : ℕ → List Field → Call → Type 0
Says l fs c = Writable c × (l ≡ letter c) × (fs ≡ map decimal (numbers c))

withdraw_says : (fs : List Field) (c : Call) → withdraw fs ≡ Ok c → Says 87 fs c
withdraw_says fs c e =
    let a = at_field_ok 2 (first number fs) (λ ticket gs. ended 3 gs (Withdraw ticket)) c e in
    let n = number_some a.0 fs a.1 a.2 in
    let d = ended_ok 3 a.1 (Withdraw a.0) c a.3 in
    subst (Says 87 fs) d.1 ((n.0, tt), refl, n.1 ∙ ap (λ gs. decimal a.0 ∷ gs) d.0)

-- one number more before the fields that were read
more : (n : ℕ) (fs gs hs : List Field) → fs ≡ decimal n ∷ gs → gs ≡ hs → fs ≡ decimal n ∷ hs
more n fs gs hs e k = e ∙ ap (λ is. decimal n ∷ is) k

book_says : (fs : List Field) (c : Call) → book fs ≡ Ok c → Says 66 fs c
book_says fs c e =
    let t = at_field_ok 2 (first number fs) _ c e in
    let p = at_field_ok 3 (first number t.1) _ c t.3 in
    let r = at_field_ok 4 (first number p.1) _ c p.3 in
    let d = at_field_ok 5 (first number r.1) _ c r.3 in
    let l = at_field_ok 6 (first number d.1) _ c d.3 in
    let z = ended_ok 7 l.1 _ c l.3 in
    let tn = number_some t.0 fs t.1 t.2 in
    let pn = number_some p.0 t.1 p.1 p.2 in
    let rn = number_some r.0 p.1 r.1 r.2 in
    let dn = number_some d.0 r.1 d.1 d.2 in
    let ln = number_some l.0 d.1 l.1 l.2 in
    let all = more _ _ _ _ tn.1 (more _ _ _ _ pn.1 (more _ _ _ _ rn.1 (more _ _ _ _ dn.1 (more _ _ _ _ ln.1 z.0)))) in
    subst (Says 66 fs) z.1 ((tn.0, (pn.0, (rn.0, (dn.0, (ln.0, tt))))), refl, all)

bare_says : (l : ℕ) (fs : List Field) (b c : Call) → Says l [] b → ended 2 fs b ≡ Ok c → Says l fs c
bare_says l fs b c says e =
    let d = ended_ok 2 fs b c e in
    subst (Says l fs) d.1 (says.0, says.1, d.0 ∙ says.2)

-- a test of a letter
pub choice : {X : Type 0} (l k : ℕ) (x y z : X) → cond (eqb l k) x y ≡ z → ((l ≡ k) × (x ≡ z)) ⊎ (y ≡ z)
choice l k x y z e =
    elim (cases_Bool (eqb l k)) [
      | inl t ↦ inl (eqb-true l k t, sym (cond-true (eqb l k) x y t) ∙ e)
      | inr f ↦ inr (sym (cond-false (eqb l k) x y f) ∙ e)
    ]

pub by_letter_says : (l : ℕ) (fs : List Field) (c : Call) → by_letter l fs ≡ Ok c → Says l fs c
by_letter_says l fs c e =
    elim (choice l 66 _ _ _ e) [
      | inl h ↦ rw h.0 (book_says fs c h.1)
      | inr e ↦ elim (choice l 87 _ _ _ e) [
        | inl h ↦ rw h.0 (withdraw_says fs c h.1)
        | inr e ↦ elim (choice l 80 _ _ _ e) [
          | inl h ↦ rw h.0 (bare_says 80 fs Pass c (tt, refl, refl) h.1)
          | inr e ↦ elim (choice l 83 _ _ _ e) [
            | inl h ↦ rw h.0 (bare_says 83 fs Spoil c (tt, refl, refl) h.1)
            | inr e ↦ absurd (grind arith)
          ]
        ]
      ]
    ]

pub call_says : (line : List ℕ) (c : Call) → call line ≡ Ok c → Writable c × (line ≡ text c)
call_says line c e =
    let a = at_field_ok 1 (lettered line) by_letter c e in
    let s = by_letter_says a.0 a.1 c a.3 in
    (s.0, lettered_some line a.0 a.1 a.2 ∙ ap₂ line_of s.1 s.2)

-- The other way round: the text of a call that can be written is short, and its fields have no tab.
abbrev pub Short : Field → Type 0
Short f = length f ≤ 5

pub short_decimal : (n : ℕ) → n < 100000 → Short (decimal n)
short_decimal n small = length-decimal-le 5 n (omega arith) (omega arith) (omega arith)

pub length_tabs : (fs : List Field) → AllByRecursion Short fs → length (tabs fs) ≤ 6 * length fs
length_tabs [] s = omega arith
length_tabs (f ∷ fs) s = omega (arith, length-append f (tabs fs), length_tabs fs s.1, s.0)

-- numbers that can be written
abbrev Small : List ℕ → Type 0
Small ns = AllByRecursion (λ n. n < 100000) ns

abbrev decimals : List ℕ → List Field
decimals ns = map decimal ns

-- what holds of the digits of each small number holds of each field
pub each_decimal : (P : Field → Type 0) → ((n : ℕ) → n < 100000 → P (decimal n)) → (ns : List ℕ) → Small ns → AllByRecursion P (decimals ns)
each_decimal P small ns s =
    recursion_from_All P _ (All-map P decimal ns (All-weaker _ _ small ns (All-from_recursion _ ns s)))

-- a letter and at most five numbers are read by the letter
lettered_numbers : (l : ℕ) (ns : List ℕ) → (l ≡ 9 → ⊥) → length ns ≤ 5 → Small ns → call (line_of l (decimals ns)) ≡ by_letter l (decimals ns)
lettered_numbers l ns ne few small =
    let long = length_tabs (decimals ns) (each_decimal Short short_decimal ns small) in
    let read = some_lettered l (decimals ns) ne (each_decimal Whole whole_decimal ns small) (omega (arith, length-map ns decimal, long)) in
    ap (λ o. at_field 1 o by_letter) read

pub says_call : (c : Call) → Writable c → call (text c) ≡ Ok c
says_call (Book place job) (t, (p, (r, (d, (l, _))))) =
    lettered_numbers 66 (job.ticket ∷ place ∷ job.release ∷ job.due ∷ job.length ∷ []) (λ e. omega arith) (omega arith) (t, (p, (r, (d, (l, tt)))))
    ∙ simp some_number
says_call (Withdraw ticket) (t, _) = lettered_numbers 87 (ticket ∷ []) (λ e. omega arith) (omega arith) (t, tt) ∙ simp some_number
says_call Pass w = refl
says_call Spoil w = refl
