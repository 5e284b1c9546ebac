-- The statements about logs.
use Rattle.std.specs.Prelude.{◌≡◌, ℕ, ◌<◌, ◌≤◌, ◌↔◌, List, [], ◌∷◌, ◌++◌, map, length, Ok, Err, Result}
use Rattle.std.specs.List.{AllByRecursion}
use Rattle.rules.specs.Model.{Model}
use Rattle.inspections.specs.Verdict.{Verdict, Bounded}
use Rattle.calls.specs.declared.call.Call.{Call}
use Rattle.calls.specs.declared.call.Job.{Job}
use Rattle.rules.specs.Faults.{Allowed}
use Rattle.schedules.specs.Walk.{Finish}
use Rattle.schedules.specs.World.{World, board, WithinLimits, with_waiting, without}
use Rattle.schedules.specs.Plans.{Plan, earliest, Fails, EveryPlanFails, FailsFor, FirstLate, Worst, proposed}
use Rattle.reckoning.specs.Log.{Asked, asked, book, HasTicket, Reckons, Entry, Led}
use Rattle.calls.specs.declared.answer.Answer.{Answer}
use Rattle.calls.specs.declared.answer.Answer.TheVariants.{Taken}
use Rattle.calls.specs.declared.refusal.Refusal.{Refusal}
use Rattle.reckoning.specs.Sound.{Sound}
use Rattle.reckoning.specs.Fates.{quarters, booking, Fate}
use Rattle.calls.specs.declared.refusal.Refusal.TheVariants.{Late}

-- Every world that a log leads to is sound.
abbrev pub LedSound : Model → Type 0
LedSound m = (V : Verdict) → Bounded V → 0 < m.size → (log : List Entry) (w : World) → Led m V log w → Sound m V w

-- Dates are kept: the clock counts the quarters of the log, every job on the board has time left, and each job that was booked is on the board
-- still, or was withdrawn, or was finished by its due quarter.
abbrev pub DatesKept : Model → Type 0
DatesKept m =
    (V : Verdict) → Bounded V → 0 < m.size → (log : List Entry) (w : World) → Led m V log w →
    (w.clock ≡ length (quarters log))
    × AllByRecursion (λ j. w.clock < j.due) (board w)
    × ((later earlier : List Entry) (room place c : ℕ) (j : Job) → log ≡ later ++ (booking room place j c ∷ earlier) → Fate j later (booking room place j c ∷ earlier) w)

-- nothing but lateness is against the booking
abbrev pub NoOtherFault : World → ℕ → ℕ → Job → Type 0
NoOtherFault w room place j = WithinLimits j × (HasTicket j.ticket (board w) → ⊥) × (length (board w) < 24) × (place ≤ length w.waiting) × (16384 ≤ room)

-- it is refused as late exactly where every plan fails, else it is taken, and every plan fails for the ticket that is named
abbrev pub AnsweredExactly : Model → Verdict → World → List Job → Result Answer Refusal → Type 0
AnsweredExactly m V w jobs answer =
    (EveryPlanFails m V w jobs ↔ ((t : ℕ) × (answer ≡ Err (Late t))))
    × ((EveryPlanFails m V w jobs → ⊥) ↔ ((c : ℕ) × (answer ≡ Ok (Taken c))))
    × ((t : ℕ) → answer ≡ Err (Late t) → (starts : List ℕ) → Plan w.clock jobs starts → FailsFor m V w jobs starts t)

-- A booking without other fault is so answered on the board that it found.
abbrev pub LateExactly : Model → Type 0
LateExactly m =
    (V : Verdict) → Bounded V → 0 < m.size → (later earlier : List Entry) (room place : ℕ) (j : Job) (answer : Result Answer Refusal) (w : World) →
    Led m V (later ++ (record { call = book room place j; answer = answer } ∷ earlier)) w →
    (v : World) → Led m V earlier v → NoOtherFault v room place j → AnsweredExactly m V v (proposed place j v.waiting) answer

-- A board that decides by the earliest plan answers as reckoned.
abbrev pub MeetsReckoning : Model → Verdict → World → ℕ → ℕ → Job → List Job → Type 0
MeetsReckoning m V w room place j jobs =
    ((t : ℕ) → FirstLate m V w jobs (earliest w.clock jobs) t → Reckons m V w (book room place j) (Err (Late t)) w)
    × ((c : ℕ) → (Fails m V w jobs (earliest w.clock jobs) → ⊥) → Worst m V w jobs (earliest w.clock jobs) j.ticket c →
    Reckons m V w (book room place j) (Ok (Taken c)) (with_waiting w jobs))

-- on every sound board
abbrev pub DecidesBookings : Model → Type 0
DecidesBookings m =
    (V : Verdict) → Bounded V → (w : World) (room place : ℕ) (j : Job) → Sound m V w → NoOtherFault w room place j → MeetsReckoning m V w room place j (proposed place j w.waiting)

-- whatever finish q an allowed list brings the job in the world after, some allowed list brings it one that is not earlier in the world before
abbrev pub NotDelayed : Model → Verdict → World → World → Job → Type 0
NotDelayed m V before after j =
    (f : List ℕ) → Allowed m after.state after.clock f → (q : ℕ) → Finish V f after j.ticket q →
    (g : List ℕ) × Allowed m before.state before.clock g × (r : ℕ) × Finish V g before j.ticket r × (q ≤ r)

-- Withdrawing a job from a sound board brings no other job's worst finish later.
abbrev pub Withdrawing : Model → Type 0
Withdrawing m =
    (V : Verdict) → Bounded V → (w : World) → Sound m V w → (t : ℕ) →
    AllByRecursion (NotDelayed m V w (with_waiting w (without t w.waiting))) (board (with_waiting w (without t w.waiting)))

-- There is just one answer to each call, and one world that it leads to.
abbrev pub OneAnswer : Model → Type 0
OneAnswer m =
    (V : Verdict) (w : World) (call : Asked) (a b : Result Answer Refusal) (u v : World) → Reckons m V w call a u → Reckons m V w call b v → (a ≡ b) × (u ≡ v)

-- A log leads to one world.
abbrev pub OneWorld : Model → Type 0
OneWorld m = (V : Verdict) (log : List Entry) (u v : World) → Led m V log u → Led m V log v → u ≡ v

-- Every call on a sound board has an answer.
abbrev pub EveryCallAnswered : Model → Type 0
EveryCallAnswered m = (V : Verdict) → Bounded V → (w : World) → Sound m V w → (call : Asked) → (answer : Result Answer Refusal) × (w' : World) × Reckons m V w call answer w'

-- the calls of a log, the newest first
abbrev pub calls : List Entry → List Asked
calls [] = []
calls (e ∷ log) = e.call ∷ calls log

-- the calls, each made with a worktable of its room, the newest first
abbrev pub with_rooms : List (ℕ × Call) → List Asked
with_rooms made = map (λ c. asked c.0 c.1) made

-- Any list of calls has a log.
abbrev pub AnyCalls : Model → Type 0
AnyCalls m =
    (V : Verdict) → Bounded V → 0 < m.size → (made : List (ℕ × Call)) → (log : List Entry) × (w : World) × (calls log ≡ with_rooms made) × Led m V log w
