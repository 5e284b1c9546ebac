-- The refusals with their numbers and details.
use Rattle.std.specs.Prelude.{ℕ, List, [], ◌∷◌, Some, None, Option, slice_index_or}
use Rattle.calls.specs.declared.refusal.Refusal.{Refusal}
use Rattle.calls.specs.declared.refusal.Refusal.TheVariants.{NoRule, OutsideLimits, TicketTaken, BoardFull, PlaceTooFar, TableTooShort, Late, TicketUnknown, TicketOnMachine, FaultForbidden, ClockEnded, ListFull, PlanBroken, NotLate, Malformed}

-- the number of each refusal, and its detail
abbrev pub code : Refusal → ℕ × ℕ
code NoRule = (1, 0)
code OutsideLimits = (2, 0)
code TicketTaken = (3, 0)
code BoardFull = (4, 0)
code PlaceTooFar = (5, 0)
code TableTooShort = (6, 0)
code (Late ticket) = (7, ticket)
code TicketUnknown = (8, 0)
code TicketOnMachine = (9, 0)
code FaultForbidden = (10, 0)
code ClockEnded = (11, 0)
code ListFull = (12, 0)
code PlanBroken = (13, 0)
code NotLate = (14, 0)
code (Malformed field) = (15, field)

-- the refusals in the order of their numbers, each with the detail d where it has one
abbrev pub table : ℕ → List (Option Refusal)
table d =
    None ∷ Some NoRule ∷ Some OutsideLimits ∷ Some TicketTaken ∷ Some BoardFull ∷ Some PlaceTooFar ∷ Some TableTooShort ∷ Some (Late d)
    ∷ Some TicketUnknown ∷ Some TicketOnMachine ∷ Some FaultForbidden ∷ Some ClockEnded ∷ Some ListFull ∷ Some PlanBroken ∷ Some NotLate
    ∷ Some (Malformed d) ∷ []

-- the refusal that a number and a detail stand for: no two refusals share both
abbrev pub refusal : ℕ → ℕ → Option Refusal
refusal n d = slice_index_or (table d) n None
