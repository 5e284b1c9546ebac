-- A job on the board stays there where one more is put in, or another is taken out.
use Rattle.std.proofs.Common.{◌≡◌, ℕ, zero, suc, eqb, List, [], ◌∷◌, ◌++◌, Some, None, Option, sym, refl, ap, ◌∙◌, subst, inl, inr}
use Rattle.std.specs.List.{AllByRecursion}
use Rattle.std.proofs.lemmas.Bool.{cond_both, eqb-true}
use Rattle.schedules.specs.Lists.{Any}
use Rattle.calls.specs.declared.call.Job.{Job}
use Rattle.schedules.specs.declared.run.Run.{Run}
use Rattle.schedules.specs.World.{on_machine, without}
use Rattle.schedules.specs.Plans.{proposed}
use Rattle.reckoning.proofs.Tracks.{On}

proposed_any : (P : Job → Type 0) (n : ℕ) (j : Job) (ws : List Job) → Any P ws → Any P (proposed n j ws)
proposed_any P zero j ws a = inr a
proposed_any P (suc n) j [] a = absurd a
proposed_any P (suc n) j (k ∷ ws) (inl p) = inl p
proposed_any P (suc n) j (k ∷ ws) (inr a) = inr (proposed_any P n j ws a)

proposed_new : (P : Job → Type 0) (n : ℕ) (j : Job) (ws : List Job) → P j → Any P (proposed n j ws)
proposed_new P zero j ws p = inl p
proposed_new P (suc n) j [] p = inl p
proposed_new P (suc n) j (k ∷ ws) p = inr (proposed_new P n j ws p)

pub on_all : (P : Job → Type 0) (j : Job) (js : List Job) → AllByRecursion P js → On j js → P j
on_all P j [] a on = absurd on
on_all P j (k ∷ js) a (inl is) = subst P is a.0
on_all P j (k ∷ js) a (inr on) = on_all P j js a.1 on

on_behind : (j k : Job) (js ls : List Job) → (On j js → On j ls) → On j (k ∷ js) → On j (k ∷ ls)
on_behind j k js ls more (inl is) = inl is
on_behind j k js ls more (inr on) = inr (more on)

on_other : (j k : Job) (js : List Job) → (j.ticket ≡ k.ticket → ⊥) → On j (k ∷ js) → On j js
on_other j k js other (inl is) = absurd (other (sym (ap (λ x. x.ticket) is)))
on_other j k js other (inr on) = on

without_on : (j : Job) (t : ℕ) (ws : List Job) → (j.ticket ≡ t → ⊥) → On j ws → On j (without t ws)
without_on j t [] other on = absurd on
without_on j t (k ∷ ws) other on =
    cond_both (eqb k.ticket t) ws (k ∷ without t ws) (On j)
    (λ e. on_other j k ws (λ same. other (same ∙ eqb-true k.ticket t e)) on)
    (λ e. on_behind j k ws (without t ws) (without_on j t ws other) on)

pub board_proposed_on : (j : Job) (machine : Option Run) (n : ℕ) (k : Job) (ws : List Job) → On j (on_machine machine ++ ws) → On j (on_machine machine ++ proposed n k ws)
board_proposed_on j None n k ws on = proposed_any (λ x. x ≡ j) n k ws on
board_proposed_on j (Some r) n k ws (inl is) = inl is
board_proposed_on j (Some r) n k ws (inr on) = inr (proposed_any (λ x. x ≡ j) n k ws on)

pub board_proposed_new : (machine : Option Run) (n : ℕ) (j : Job) (ws : List Job) → On j (on_machine machine ++ proposed n j ws)
board_proposed_new None n j ws = proposed_new (λ x. x ≡ j) n j ws refl
board_proposed_new (Some r) n j ws = inr (proposed_new (λ x. x ≡ j) n j ws refl)

pub board_without_on : (j : Job) (machine : Option Run) (t : ℕ) (ws : List Job) → (j.ticket ≡ t → ⊥) → On j (on_machine machine ++ ws) → On j (on_machine machine ++ without t ws)
board_without_on j None t ws other on = without_on j t ws other on
board_without_on j (Some r) t ws other (inl is) = inl is
board_without_on j (Some r) t ws other (inr on) = inr (without_on j t ws other on)
