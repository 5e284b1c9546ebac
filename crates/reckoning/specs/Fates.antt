-- What a log tells of a job that was booked. Logs have the newest entry first.
use Rattle.std.specs.Prelude.{◌≡◌, ℕ, ◌-◌, ◌≤◌, ◌⊎◌, List, [], ◌∷◌, ◌++◌, length, take, replicate, Ok, Err, Result}
use Rattle.std.specs.List.{AllByRecursion}
use Rattle.schedules.specs.Lists.{Any}
use Rattle.calls.specs.declared.call.Job.{Job}
use Rattle.schedules.specs.World.{World, board}
use Rattle.schedules.specs.declared.run.Kind.{Kind}
use Rattle.schedules.specs.declared.run.Kind.TheVariants.{Clean, Spoiled}
use Rattle.calls.specs.declared.answer.Event.{Event}
use Rattle.calls.specs.declared.answer.Event.TheVariants.{Running, Finished}
use Rattle.reckoning.specs.Log.{Asked, book, withdraw, pass, spoil, Entry}
use Rattle.calls.specs.declared.answer.Answer.{Answer}
use Rattle.calls.specs.declared.answer.Answer.TheVariants.{Taken, Withdrawn, Quarter}
use Rattle.calls.specs.declared.refusal.Refusal.{Refusal}

-- the quarter that an entry tells of, if any: its kind and its event
abbrev pub said : Asked → Result Answer Refusal → List (Kind × Event)
said pass (Ok (Quarter e)) = (Clean, e) ∷ []
said spoil (Ok (Quarter e)) = (Spoiled, e) ∷ []
said pass (Ok (Taken c)) = []
said pass (Ok Withdrawn) = []
said pass (Err r) = []
said spoil (Ok (Taken c)) = []
said spoil (Ok Withdrawn) = []
said spoil (Err r) = []
said (book room place j) a = []
said (withdraw t) a = []

-- the quarters of a log, the newest first
abbrev pub quarters : List Entry → List (Kind × Event)
quarters [] = []
quarters (e ∷ log) = said e.call e.answer ++ quarters log

-- by this entry the ticket's job leaves the board
abbrev pub Leaves : ℕ → Entry → Type 0
Leaves t e = ((e.call ≡ withdraw t) × (e.answer ≡ Ok Withdrawn)) ⊎ (e.answer ≡ Ok (Quarter (Finished t)))

-- the entries by which a job is booked, withdrawn and finished
abbrev pub booking : ℕ → ℕ → Job → ℕ → Entry
booking room place j c = record { call = book room place j; answer = Ok (Taken c) }

abbrev pub withdrawal : Job → Entry
withdrawal j = record { call = withdraw j.ticket; answer = Ok Withdrawn }

abbrev pub finishing : Job → Entry
finishing j = record { call = pass; answer = Ok (Quarter (Finished j.ticket)) }

-- the entry is in the log after the booking, and is the first by which the job leaves
abbrev pub LeftBy : Job → Entry → List Entry → List Entry → Type 0
LeftBy j e before later = ((after : List Entry) × (later ≡ after ++ (e ∷ before))) × AllByRecursion (λ x. Leaves j.ticket x → ⊥) before

-- the last quarters, as many as the job is long, are clean ones of one run that ends with the job finished
abbrev pub WholeRun : Job → List Entry → Type 0
WholeRun j log = take j.length (quarters log) ≡ (Clean, Finished j.ticket) ∷ replicate (j.length - 1) (Clean, Running j.ticket)

-- on the board, and not left since the booking
abbrev pub StillThere : Job → List Entry → World → Type 0
StillThere j later w = Any (λ k. k ≡ j) (board w) × AllByRecursion (λ x. Leaves j.ticket x → ⊥) later

abbrev pub WasWithdrawn : Job → List Entry → Type 0
WasWithdrawn j later = (before : List Entry) × LeftBy j (withdrawal j) before later

-- not after its due quarter, by a whole run in clean quarters after the booking
abbrev pub WasFinished : Job → List Entry → List Entry → Type 0
WasFinished j later earlier =
    (before : List Entry) × LeftBy j (finishing j) before later × WholeRun j (finishing j ∷ before)
    × (length (quarters (finishing j ∷ (before ++ earlier))) ≤ j.due)

-- what becomes of a job that was booked, where `earlier` is the log up to its booking and `later` what follows
abbrev pub Fate : Job → List Entry → List Entry → World → Type 0
Fate j later earlier w = StillThere j later w ⊎ (WasWithdrawn j later ⊎ WasFinished j later earlier)
