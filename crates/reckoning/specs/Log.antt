-- The calls to a board, how each is answered, and the logs that can come about.
use Rattle.std.specs.Prelude.{◌≡◌, ℕ, suc, ◌<◌, ◌≤◌, List, [], ◌∷◌, length, Some, None, Ok, Err, Result}
use Rattle.rules.specs.Model.{Model}
use Rattle.inspections.specs.Verdict.{Verdict}
use Rattle.schedules.specs.Lists.{Any, If}
use Rattle.calls.specs.declared.call.Job.{Job}
use Rattle.schedules.specs.World.{World, quarter, with_waiting, without, on_machine, board, WithinLimits}
use Rattle.schedules.specs.declared.run.Kind.{Kind}
use Rattle.schedules.specs.declared.run.Kind.TheVariants.{Clean, Spoiled}
use Rattle.calls.specs.declared.answer.Answer.{Answer}
use Rattle.calls.specs.declared.answer.Answer.TheVariants.{Quarter, Taken, Withdrawn}
use Rattle.calls.specs.declared.call.Call.{Call}
use Rattle.calls.specs.declared.call.Call.TheVariants.{Book, Pass, Spoil, Withdraw}
use Rattle.calls.specs.declared.refusal.Refusal.{Refusal}
use Rattle.calls.specs.declared.refusal.Refusal.TheVariants.{BoardFull, ClockEnded, FaultForbidden, Late, OutsideLimits, PlaceTooFar, TableTooShort, TicketOnMachine, TicketTaken, TicketUnknown}
use Rattle.schedules.specs.Plans.{earliest, EveryPlanFails, FirstLate, Worst, proposed}

-- A call as a log has it: a book comes with the room of its worktable.
pub data Asked : Type 0 where
  book : ℕ → ℕ → Job → Asked
  withdraw : ℕ → Asked
  pass : Asked
  spoil : Asked

-- a call that is made with a worktable of this room
abbrev pub asked : ℕ → Call → Asked
asked room (Book place j) = book room place j
asked room (Withdraw t) = withdraw t
asked room Pass = pass
asked room Spoil = spoil

-- a refusal leaves the world as it was
abbrev pub Refuses : World → Result Answer Refusal → World → Refusal → Type 0
Refuses w answer w' refusal = (answer ≡ Err refusal) × (w' ≡ w)

-- the world after a quarter of the kind that leaves the rule in the state
abbrev pub one_quarter : Verdict → Kind → World → ℕ → World
one_quarter V kind w state = record {
  clock = suc w.clock;
  state = state;
  machine = (quarter V kind w.clock w.machine w.waiting).machine;
  waiting = (quarter V kind w.clock w.machine w.waiting).waiting;
}

-- the quarter is answered by its event
abbrev pub GoesOn : Verdict → Kind → World → ℕ → Result Answer Refusal → World → Type 0
GoesOn V kind w state answer w' = (answer ≡ Ok (Quarter (quarter V kind w.clock w.machine w.waiting).event)) × (w' ≡ one_quarter V kind w state)

-- a job of the list has the ticket
abbrev pub HasTicket : ℕ → List Job → Type 0
HasTicket t js = Any (λ j. j.ticket ≡ t) js

-- the sequence can be kept: the answer is the worst finish of the new job
abbrev pub Takes : Model → Verdict → World → List Job → Job → Result Answer Refusal → World → Type 0
Takes m V w jobs j answer w' = (c : ℕ) × Worst m V w jobs (earliest w.clock jobs) j.ticket c × (answer ≡ Ok (Taken c)) × (w' ≡ with_waiting w jobs)

-- it cannot: the answer names the first job that can be late at the earliest starts
abbrev pub RefusesLate : Model → Verdict → World → List Job → Result Answer Refusal → World → Type 0
RefusesLate m V w jobs answer w' = (t : ℕ) × FirstLate m V w jobs (earliest w.clock jobs) t × Refuses w answer w' (Late t)

-- how a call is answered, and what world it leads to
abbrev pub Reckons : Model → Verdict → World → Asked → Result Answer Refusal → World → Type 0
Reckons m V w pass answer w' =
    If (w.clock ≡ 4096) (Refuses w answer w' ClockEnded)
    (GoesOn V Clean w (m.clean w.state) answer w')
Reckons m V w spoil answer w' =
    If (w.clock ≡ 4096) (Refuses w answer w' ClockEnded)
    (If (m.spoiled w.state ≡ None) (Refuses w answer w' FaultForbidden)
    ((t : ℕ) × (m.spoiled w.state ≡ Some t) × GoesOn V Spoiled w t answer w'))
Reckons m V w (withdraw t) answer w' =
    If (HasTicket t (board w) → ⊥) (Refuses w answer w' TicketUnknown)
    (If (HasTicket t (on_machine w.machine)) (Refuses w answer w' TicketOnMachine)
    ((answer ≡ Ok Withdrawn) × (w' ≡ with_waiting w (without t w.waiting))))
Reckons m V w (book room place j) answer w' =
    If (WithinLimits j → ⊥) (Refuses w answer w' OutsideLimits)
    (If (HasTicket j.ticket (board w)) (Refuses w answer w' TicketTaken)
    (If (24 ≤ length (board w)) (Refuses w answer w' BoardFull)
    (If (length w.waiting < place) (Refuses w answer w' PlaceTooFar)
    (If (room < 16384) (Refuses w answer w' TableTooShort)
    (If (EveryPlanFails m V w (proposed place j w.waiting)) (RefusesLate m V w (proposed place j w.waiting) answer w')
    (Takes m V w (proposed place j w.waiting) j answer w'))))))

-- a call with its answer
pub record Entry : Type 0 where
  pub call : Asked
  pub answer : Result Answer Refusal

-- the world at the clock 0
abbrev pub opened : Model → World
opened m = record { clock = 0; state = m.opening; machine = None; waiting = [] }

-- The calls of the log, the newest first, lead from the opened world to w, and each was answered as reckoned.
abbrev pub Led : Model → Verdict → List Entry → World → Type 0
Led m V [] w = w ≡ opened m
Led m V (e ∷ log) w = (v : World) × Led m V log v × Reckons m V v e.call e.answer w
