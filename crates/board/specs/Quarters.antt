-- What a clean and a spoiled quarter answer on an empty machine, and what they make of the clock, the rule's state and the faults.
use Rattle.std.specs.Prelude.{◌≡◌, ℕ, ◌+◌, ◌<◌, cond, ◌↔◌, List, [], ◌∷◌, ◌++◌, Some, None, Ok, Err, Option, Result, nat_lt}
use Rattle.board.specs.Faults.{Seen}
use Rattle.board.specs.declared.moment.Moment.{Moment}
use Rattle.calls.specs.declared.answer.Event.{Event}
use Rattle.calls.specs.declared.answer.Event.TheVariants.{Idle}
use Rattle.calls.specs.declared.refusal.Refusal.{Refusal}
use Rattle.calls.specs.declared.refusal.Refusal.TheVariants.{ClockEnded, FaultForbidden}
use Rattle.rules.specs.Faults.{Allowed}
use Rattle.rules.specs.Model.{Model, after_clean, after_spoiled}
use Rattle.std.specs.Option.{unwrap_or}

-- an answer, and the moment after it
pub record Quarter : Type 0 where
  pub answer : Result Event Refusal
  pub after : Moment

-- the moment at the next clock, in the state
abbrev pub at_next : Moment → ℕ → Moment
at_next w state = record { clock = w.clock + 1; state = state }

-- where the clock stands before 4096, `quarter`; else nothing happens
abbrev pub before_end : Moment → Quarter → Quarter
before_end w quarter = cond (nat_lt w.clock 4096) quarter (record { answer = Err ClockEnded; after = w })

-- a quarter that ends in the state, or is refused and moves nothing
abbrev pub ended_in : Moment → Result ℕ Refusal → Quarter
ended_in w (Ok state) = record { answer = Ok Idle; after = at_next w state }
ended_in w (Err refusal) = record { answer = Err refusal; after = w }

-- one clean quarter
abbrev pub passed : Model → Moment → Quarter
passed m w = before_end w (record { answer = Ok Idle; after = at_next w (unwrap_or (after_clean m w.state) w.state) })

-- one spoiled quarter, where the rule permits it
abbrev pub spoiled_to : Moment → Option ℕ → Quarter
spoiled_to w None = record { answer = Err FaultForbidden; after = w }
spoiled_to w (Some state) = record { answer = Ok Idle; after = at_next w state }

abbrev pub spoiled : Model → Moment → Quarter
spoiled m w = before_end w (spoiled_to w (after_spoiled m w.state))

-- the quarter of an answer and the moment after it
abbrev pub quarter : Result Event Refusal → Moment → Quarter
quarter answer after = record { answer = answer; after = after }

-- A clean quarter q at the moment w, before the clock ends: whatever faults the board has seen, it is idle, and the board has seen the same faults after it.
abbrev pub PassSeen : Model → Moment → Quarter → Type 0
PassSeen m w q =
    (f : List ℕ) → 0 < m.size → Seen m f w → w.clock < 4096 →
    (q.answer ≡ Ok Idle) × (q.after.clock ≡ w.clock + 1) × Seen m f q.after

-- the faults f and one in the quarter after the clock
abbrev pub one_more : List ℕ → Moment → List ℕ
one_more f w = f ++ ((w.clock + 1) ∷ [])

-- A spoiled quarter q at the moment w, after the faults f.
pub record SpoiledAfter (m : Model) (w : Moment) (q : Quarter) (f : List ℕ) : Type 0 where
  -- it is idle just where the rule allows the faults with this one
  pub allowed : (q.answer ≡ Ok Idle) ↔ Allowed m m.opening 0 (one_more f w)
  -- which are then the faults seen, at the next clock
  pub seen : q.answer ≡ Ok Idle → (q.after.clock ≡ w.clock + 1) × Seen m (one_more f w) q.after
  -- it is forbidden just where the rule does not allow them
  pub forbidden : (q.answer ≡ Err FaultForbidden) ↔ (Allowed m m.opening 0 (one_more f w) → ⊥)
  -- and nothing moves then
  pub still : q.answer ≡ Err FaultForbidden → q.after ≡ w

-- That holds before the clock ends, whatever faults the board has seen.
abbrev pub SpoilSeen : Model → Moment → Quarter → Type 0
SpoilSeen m w q = (f : List ℕ) → 0 < m.size → Seen m f w → w.clock < 4096 → SpoiledAfter m w q f
