-- Every call has an answer: over the finitely many allowed lists of faults the worst finish is found.
use Rattle.std.proofs.Common.{◌≡◌, ℕ, zero, suc, ◌+◌, ◌-◌, ◌<◌, ◌≤◌, ◌⊎◌, List, [], ◌∷◌, ◌++◌, length, get_or, Some, None, Option, Ok, sym, refl, ap, ◌∙◌, subst, inl, inr, arith, Err, Result}
use mathlib.Core.Path.{subst⁻¹}
use Rattle.std.specs.List.{AllByRecursion}
use Rattle.std.proofs.ByRecursion.{All-from_get_or}
use Rattle.std.proofs.lemmas.Bool.{cases_lt, cases_eq}
use Rattle.rules.specs.Model.{Model, Laws, cleans}
use Rattle.rules.specs.Faults.{Allowed}
use Rattle.inspections.specs.Verdict.{Verdict, Bounded}
use Rattle.schedules.proofs.States.{cleans_split, allowed_after_wait}
use Rattle.schedules.specs.Lists.{Any, First}
use Rattle.calls.specs.declared.call.Job.{Job}
use Rattle.schedules.specs.World.{World, nobody, on_machine, board, WithinLimits, with_waiting}
use Rattle.schedules.specs.Walk.{Gives, Finish}
use Rattle.schedules.specs.Plans.{earliest, timed, planned, CanBeLate, Fails, FirstLate, Worst, proposed}
use Rattle.reckoning.specs.Log.{Asked, book, withdraw, pass, spoil, HasTicket, Reckons, Entry, opened, Led}
use Rattle.calls.specs.declared.answer.Answer.{Answer}
use Rattle.calls.specs.declared.answer.Answer.TheVariants.{Taken}
use Rattle.calls.specs.declared.refusal.Refusal.{Refusal}
use Rattle.schedules.specs.Ready.{Right}
use Rattle.reckoning.specs.Sound.{Sound}
use Rattle.schedules.specs.Foreseen.{foreseen}
use Rattle.reckoning.specs.Theorems.{EveryCallAnswered, calls, AnyCalls, with_rooms}
use Rattle.schedules.proofs.Lists.{pairs_at}
use Rattle.schedules.proofs.Planned.{allowed_increasing, least_unique, right_ready, plan_finishes, earliest_plan}
use Rattle.reckoning.proofs.Booking.{proposed_right, decides_bookings}
use Rattle.reckoning.proofs.OneAnswer.{same_state}
use Rattle.reckoning.proofs.Sound.{opened_sound, reckons_sound}
use Rattle.reckoning.proofs.Staying.{board_proposed_new}
use Rattle.reckoning.proofs.Tracks.{On}
use Rattle.calls.specs.declared.refusal.Refusal.TheVariants.{Late}

-- tests

abbrev Decided : Type 0 → Type 0
Decided P = P ⊎ (P → ⊥)

le_decided : (a b : ℕ) → Decided (a ≤ b)
le_decided a b = elim (cases_lt b a) [ inl over ↦ inr (λ h. omega arith) | inr by ↦ inl by ]

any_decided : (P : Job → Type 0) (js : List Job) → ((j : Job) → Decided (P j)) → Decided (Any P js)
any_decided P [] d = inr (λ a. a)
any_decided P (j ∷ js) d = go (d j) (any_decided P js d)
  where
    go : Decided (P j) → Decided (Any P js) → Decided (P j ⊎ Any P js)
    go (inl p) r = inl (inl p)
    go (inr n) (inl a) = inl (inr a)
    go (inr n) (inr k) = inr (elim [ inl p ↦ n p | inr a ↦ k a ])

has_decided : (t : ℕ) (js : List Job) → Decided (HasTicket t js)
has_decided t js = any_decided (λ j. j.ticket ≡ t) js (λ j. cases_eq j.ticket t)

limits_decided : (j : Job) → Decided (WithinLimits j)
limits_decided j =
    elim (le_decided 1 j.ticket) [
      | inr n ↦ inr (λ l. n l.0)
      | inl a ↦ elim (le_decided j.ticket 9999) [
        | inr n ↦ inr (λ l. n l.1)
        | inl b ↦ elim (le_decided j.release 4096) [
          | inr n ↦ inr (λ l. n l.2)
          | inl c ↦ elim (le_decided j.due 4096) [
            | inr n ↦ inr (λ l. n l.3)
            | inl d ↦ elim (le_decided 1 j.length) [
              | inr n ↦ inr (λ l. n l.4)
              | inl e ↦ elim (le_decided j.length 96) [ inr n ↦ inr (λ l. n l.5) | inl f ↦ inl (a, b, c, d, e, f) ]
            ]
          ]
        ]
      ]
    ]

-- the first of which P holds, if it holds of any
first_or_none : (P : Job → Type 0) (js : List Job) → AllByRecursion (λ j. Decided (P j)) js → ((t : ℕ) × First P (λ j. j.ticket ≡ t) js) ⊎ (Any P js → ⊥)
first_or_none P [] d = inr (λ a. a)
first_or_none P (j ∷ js) d = go d.0 (first_or_none P js d.1)
  where
    go : Decided (P j) → ((t : ℕ) × First P (λ k. k.ticket ≡ t) js) ⊎ (Any P js → ⊥) → ((t : ℕ) × First P (λ k. k.ticket ≡ t) (j ∷ js)) ⊎ (Any P (j ∷ js) → ⊥)
    go (inl p) r = inl (j.ticket, inl (p, refl))
    go (inr n) (inl (t, f)) = inl (t, inr (n, f))
    go (inr n) (inr k) = inr (elim [ inl p ↦ n p | inr a ↦ k a ])

-- the allowed list under which a number is greatest

module _ (m : Model) where
  -- from one quarter to the next
  clean_first : (s c : ℕ) (f : List ℕ) → Allowed m (m.clean s) (suc c) f → Allowed m s c f
  clean_first s c f a = allowed_after_wait m s c 1 (suc c) (omega arith) f a

  fault_first : (s t c : ℕ) (f : List ℕ) → c < 4096 → m.spoiled s ≡ Some t → Allowed m t (suc c) f → Allowed m s c (suc c ∷ f)
  fault_first s t c f early permitted a =
      let wait : suc c - c - 1 ≡ 0 = omega arith in
      (t, omega arith, early, ap (λ n. m.spoiled (cleans m n s)) wait ∙ permitted, a)

  -- an allowed list begins with the next quarter, or is allowed after it
  first_quarter : (s c : ℕ) (h : List ℕ) → Allowed m s c h →
      Allowed m (m.clean s) (suc c) h ⊎ ((t : ℕ) × (f : List ℕ) × (h ≡ suc c ∷ f) × (m.spoiled s ≡ Some t) × Allowed m t (suc c) f)
  first_quarter s c [] a = inl tt
  first_quarter s c (q ∷ f) (t, late, by, permitted, a) =
      elim (cases_eq q (suc c)) [
        | inl now ↦
            let wait : 0 ≡ q - c - 1 = omega arith in
            inr (t, f, ap (λ x. x ∷ f) now, ap (λ n. m.spoiled (cleans m n s)) wait ∙ permitted, subst (λ x. Allowed m t x f) now a)
        | inr not ↦
            inl (t, omega arith, by, ap m.spoiled (sym (cleans_split m (q - c - 1) 1 (q - suc c - 1) s (omega arith))) ∙ permitted, a)
      ]

  abbrev Greatest : (List ℕ → ℕ) → ℕ → ℕ → Type 0
  Greatest g s c = (f : List ℕ) × Allowed m s c f × ((h : List ℕ) → Allowed m s c h → g h ≤ g f)

  none_left : (g : List ℕ → ℕ) (s c : ℕ) → 4096 ≤ c → (h : List ℕ) → Allowed m s c h → g h ≤ g []
  none_left g s c over [] a = omega arith
  none_left g s c over (q ∷ f) (t, late, by, permitted, a) = absurd (omega arith)

  no_state : (o : Option ℕ) (t : ℕ) → o ≡ None → o ≡ Some t → ⊥
  no_state o t p q = let z : ◌≡◌ {A = ℕ} 0 1 = cc in omega arith

  -- the greater of the two ways through the next quarter
  next_greatest : (g : List ℕ → ℕ) (s c : ℕ) → c < 4096 → Greatest g (m.clean s) (suc c) →
      ((t : ℕ) → m.spoiled s ≡ Some t → Greatest (λ f. g (suc c ∷ f)) t (suc c)) → (o : Option ℕ) → m.spoiled s ≡ o → Greatest g s c
  next_greatest g s c early (f, a, most) spoils None barred =
      (f, clean_first s c f a, λ h b. elim (first_quarter s c h b) [ inl b' ↦ most h b' | inr (t, _, _, permitted, _) ↦ absurd (no_state (m.spoiled s) t barred permitted) ])
  next_greatest g s c early (f, a, most) spoils (Some t) permits =
      let (f', a', most') = spoils t permits in
      let under : (h : List ℕ) → Allowed m s c h → (g h ≤ g f) ⊎ (g h ≤ g (suc c ∷ f')) =
      λ h b. elim (first_quarter s c h b) [
        | inl b' ↦ inl (most h b')
        | inr (u, r, is, permitted, b') ↦
            let same : u ≡ t = same_state (m.spoiled s) u t permitted permits in
            let up = most' r (subst (λ x. Allowed m x (suc c) r) same b') in
            inr (subst⁻¹ (λ l. g l ≤ g (suc c ∷ f')) is up)
      ] in
      elim (cases_lt (g f) (g (suc c ∷ f'))) [
        | inl less ↦ (suc c ∷ f', fault_first s t c f' early permits a', λ h b. elim (under h b) [ inl x ↦ omega arith | inr x ↦ x ])
        | inr more ↦ (f, clean_first s c f a, λ h b. elim (under h b) [ inl x ↦ x | inr x ↦ omega arith ])
      ]

  greatest_from : (n : ℕ) (g : List ℕ → ℕ) (s c : ℕ) → c + n ≡ 4096 → Greatest g s c
  greatest_from zero g s c e = ([], tt, none_left g s c (omega arith))
  greatest_from (suc n) g s c e =
      next_greatest g s c (omega arith) (greatest_from n g (m.clean s) (suc c) (omega arith))
      (λ t permits. greatest_from n (λ f. g (suc c ∷ f)) t (suc c) (omega arith)) (m.spoiled s) refl

  pub greatest_under : (g : List ℕ → ℕ) (s c : ℕ) → c ≤ 4096 → Greatest g s c
  greatest_under g s c by = greatest_from (4096 - c) g s c (omega arith)

-- the worst finish of each job in the earliest plan

module _ (m : Model) (laws : Laws m) (V : Verdict) (bounded : Bounded V) (w : World) (jobs : List Job) (early : w.clock ≤ 4096) (right : Right (with_waiting w jobs)) where
  abbrev first_starts : List ℕ
  first_starts = earliest w.clock jobs

  abbrev all_jobs : List Job
  all_jobs = on_machine w.machine ++ jobs

  abbrev finish_at : ℕ → List ℕ → ℕ
  finish_at i f = get_or (foreseen V w.clock w.machine (timed jobs first_starts) f) i 0

  ends_at : (i : ℕ) → i < length all_jobs → (f : List ℕ) → Allowed m w.state w.clock f →
      Finish V f (planned w jobs first_starts) (get_or all_jobs i nobody).ticket (finish_at i f)
  ends_at i within f a =
      pairs_at (λ j q. Finish V f (planned w jobs first_starts) j.ticket q) all_jobs (foreseen V w.clock w.machine (timed jobs first_starts) f) i nobody 0 within
      (plan_finishes V bounded w jobs first_starts (right_ready (with_waiting w jobs) right) (earliest_plan w.clock jobs) f (allowed_increasing m w.state w.clock f a))

  same_end : (i : ℕ) → i < length all_jobs → (f : List ℕ) → Allowed m w.state w.clock f → (q : ℕ) →
      Finish V f (planned w jobs first_starts) (get_or all_jobs i nobody).ticket q → q ≡ finish_at i f
  same_end i within f a q ends =
      least_unique (Gives V f w.clock w.machine (timed jobs first_starts) (get_or all_jobs i nobody).ticket) q (finish_at i f) ends (ends_at i within f a)

  pub worst_at : (i : ℕ) → i < length all_jobs → (c : ℕ) × Worst m V w jobs first_starts (get_or all_jobs i nobody).ticket c
  worst_at i within =
      let (f, a, most) = greatest_under m (finish_at i) w.state w.clock early in
      (finish_at i f, ((f, a, ends_at i within f a), λ h q b ends. let e = same_end i within h b q ends in let up = most h b in omega arith))

  late_decided : (i : ℕ) → i < length all_jobs → Decided (CanBeLate m V (planned w jobs first_starts) (get_or all_jobs i nobody))
  late_decided i within =
      let (f, a, most) = greatest_under m (finish_at i) w.state w.clock early in
      elim (cases_lt (get_or all_jobs i nobody).due (finish_at i f)) [
        | inl late ↦ inl (f, a, (finish_at i f, ends_at i within f a, late))
        | inr by ↦ inr (λ (h, b, (q, ends, late)). let e = same_end i within h b q ends in let up = most h b in omega arith)
      ]

  pub first_late_or_none : ((t : ℕ) × FirstLate m V w jobs first_starts t) ⊎ (Fails m V w jobs first_starts → ⊥)
  first_late_or_none =
      first_or_none (CanBeLate m V (planned w jobs first_starts)) all_jobs
      (All-from_get_or (λ j. Decided (CanBeLate m V (planned w jobs first_starts) j)) all_jobs nobody late_decided)

on_place : (j : Job) (js : List Job) → On j js → (i : ℕ) × (i < length js) × (get_or js i nobody ≡ j)
on_place j [] on = absurd on
on_place j (k ∷ js) (inl is) = (0, omega arith, is)
on_place j (k ∷ js) (inr on) =
    let (i, within, is) = on_place j js on in
    (suc i, omega arith, is)

module _ (m : Model) (laws : Laws m) (V : Verdict) (bounded : Bounded V) (w : World) (sound : Sound m V w) where
  abbrev Answered : Asked → Type 0
  Answered call = (answer : Result Answer Refusal) × (w' : World) × Reckons m V w call answer w'

  pass_answered : Answered pass
  pass_answered = elim (cases_eq w.clock 4096) [ inl over ↦ (_, _, inl (over, (refl, refl))) | inr early ↦ (_, _, inr (early, (refl, refl))) ]

  spoil_by : (w.clock ≡ 4096 → ⊥) → (o : Option ℕ) → m.spoiled w.state ≡ o → Answered spoil
  spoil_by early None barred = (_, _, inr (early, inl (barred, (refl, refl))))
  spoil_by early (Some t) permits = (_, _, inr (early, inr (λ barred. no_state m (m.spoiled w.state) t barred permits, (t, permits, (refl, refl)))))

  spoil_answered : Answered spoil
  spoil_answered = elim (cases_eq w.clock 4096) [ inl over ↦ (_, _, inl (over, (refl, refl))) | inr early ↦ spoil_by early (m.spoiled w.state) refl ]

  withdraw_answered : (t : ℕ) → Answered (withdraw t)
  withdraw_answered t =
      elim (has_decided t (board w)) [
        | inr absent ↦ (_, _, inl (absent, (refl, refl)))
        | inl present ↦ elim (has_decided t (on_machine w.machine)) [
          | inl runs ↦ (_, _, inr (λ absent. absent present, inl (runs, (refl, refl))))
          | inr waits ↦ (_, _, inr (λ absent. absent present, inr (waits, (refl, refl))))
        ]
      ]

  -- a booking without other fault
  late_answered : (room place : ℕ) (j : Job) → WithinLimits j → (HasTicket j.ticket (board w) → ⊥) → length (board w) < 24 → place ≤ length w.waiting → 16384 ≤ room → Answered (book room place j)
  late_answered room place j limits new few near table =
      let jobs = proposed place j w.waiting in
      let right = proposed_right w place j sound.right limits new in
      let d = decides_bookings m laws V bounded w room place j sound (limits, new, few, near, table) in
      let (i, within, is) = on_place j (on_machine w.machine ++ jobs) (board_proposed_new w.machine place j w.waiting) in
      let (c, worst) = worst_at m laws V bounded w jobs sound.in_time right i within in
      elim (first_late_or_none m laws V bounded w jobs sound.in_time right) [
        | inl (t, late) ↦ (Err (Late t), w, d.0 t late)
        | inr holds ↦ (Ok (Taken c), with_waiting w jobs, d.1 c holds (subst (λ x. Worst m V w jobs (earliest w.clock jobs) x.ticket c) is worst))
      ]

  book_answered : (room place : ℕ) (j : Job) → Answered (book room place j)
  book_answered room place j =
      elim (limits_decided j) [
        | inr out ↦ (_, _, inl (out, (refl, refl)))
        | inl limits ↦ elim (has_decided j.ticket (board w)) [
          | inl old ↦ (_, _, inr (λ out. out limits, inl (old, (refl, refl))))
          | inr new ↦ elim (cases_lt (length (board w)) 24) [
            | inr full ↦ (_, _, inr (λ out. out limits, inr (new, inl (full, (refl, refl)))))
            | inl few ↦ elim (cases_lt (length w.waiting) place) [
              | inl above ↦ (_, _, inr (λ out. out limits, inr (new, inr (λ full. omega arith, inl (above, (refl, refl))))))
              | inr near ↦ elim (cases_lt room 16384) [
                | inl short ↦ (_, _, inr (λ out. out limits, inr (new, inr (λ full. omega arith, inr (λ above. omega arith, inl (short, (refl, refl)))))))
                | inr table ↦ late_answered room place j limits new few near table
              ]
            ]
          ]
        ]
      ]

  pub answered : (call : Asked) → Answered call
  answered pass = pass_answered
  answered spoil = spoil_answered
  answered (withdraw t) = withdraw_answered t
  answered (book room place j) = book_answered room place j

pub every_call_answered : (m : Model) → Laws m → EveryCallAnswered m
every_call_answered m laws V bounded w sound call = answered m laws V bounded w sound call

-- a log for any calls, with a sound world at its end
sound_log : (m : Model) → Laws m → (V : Verdict) → Bounded V → 0 < m.size → (made : List Asked) →
    (log : List Entry) × (w : World) × (calls log ≡ made) × Led m V log w × Sound m V w
sound_log m laws V bounded some [] = ([], opened m, refl, refl, opened_sound m laws V bounded some)
sound_log m laws V bounded some (call ∷ made) =
    let (log, v, as_made, led, sound) = sound_log m laws V bounded some made in
    let (answer, w, reckons) = answered m laws V bounded v sound call in
    (record { call = call; answer = answer } ∷ log, w, ap (λ l. call ∷ l) as_made, (v, led, reckons), reckons_sound m laws V bounded v w call answer sound reckons)

pub any_calls : (m : Model) → Laws m → AnyCalls m
any_calls m laws V bounded some made =
    let (log, w, as_made, led, sound) = sound_log m laws V bounded some (with_rooms made) in
    (log, w, as_made, led)
