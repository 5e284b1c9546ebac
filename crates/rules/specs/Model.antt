-- What a rule for faults is: its states, what a quarter makes of a state, the order "at least as free as", and the laws.
use Rattle.std.specs.Prelude.{◌≡◌, ℕ, zero, suc, ◌<◌, ◌≤◌, cond, Some, None, Option, nat_le, nat_lt}

-- A rule has the states below its size, an opening state, a state after a clean quarter, and a state after a spoiled quarter or none
-- where it permits no fault. `Freer s t` says that the state s is at least as free as t.
pub record Model : Type 1 where
  pub size : ℕ
  pub opening : ℕ
  pub clean : ℕ → ℕ
  pub spoiled : ℕ → Option ℕ
  pub Freer : ℕ → ℕ → Type 0

-- the laws of a rule, over its states
pub record Laws (m : Model) : Type 0 where
  -- each state is at least as free as itself
  pub reflexive : (s : ℕ) → s < m.size → m.Freer s s
  -- where s is at least as free as t, and t as u, s is at least as free as u
  pub transitive : (s t u : ℕ) → s < m.size → t < m.size → u < m.size → m.Freer s t → m.Freer t u → m.Freer s u
  -- a clean quarter leads to a state that is at least as free
  pub clean_frees : (s : ℕ) → s < m.size → m.Freer (m.clean s) s
  -- a clean quarter leads to a state that is at least as free as where a spoiled one leads
  pub clean_beats_spoiled : (s t : ℕ) → s < m.size → m.spoiled s ≡ Some t → m.Freer (m.clean s) t
  -- a clean quarter keeps the order
  pub clean_keeps : (s t : ℕ) → s < m.size → t < m.size → m.Freer s t → m.Freer (m.clean s) (m.clean t)
  -- a fault that a state permits is permitted in each state at least as free, and keeps the order
  pub spoiled_keeps : (s t u : ℕ) → s < m.size → t < m.size → m.Freer s t → m.spoiled t ≡ Some u →
      (v : ℕ) × (m.spoiled s ≡ Some v) × m.Freer v u
  -- a clean quarter leads from a state to a state
  pub clean_stays : (s : ℕ) → s < m.size → m.clean s < m.size
  -- a spoiled quarter leads from a state to a state
  pub spoiled_stays : (s t : ℕ) → s < m.size → m.spoiled s ≡ Some t → t < m.size
  -- where there are states, the opening state is one
  pub opens : 0 < m.size → m.opening < m.size
  -- a rule with no state is no rule, and its opening state reads 0
  pub closed : m.size ≡ 0 → m.opening ≡ 0
  -- a rule has at most 512 states
  pub small : m.size ≤ 512

-- a size that would pass 512 is 0
abbrev pub capped : ℕ → ℕ
capped n = cond (nat_le n 512) n 0

-- what a clean quarter makes of the number s: the state that follows, and nothing where s is no state
abbrev pub after_clean : Model → ℕ → Option ℕ
after_clean m s = cond (nat_lt s m.size) (Some (m.clean s)) None

-- what a spoiled quarter makes of the number s: the state that follows, and nothing where the rule permits no fault or s is no state
abbrev pub after_spoiled : Model → ℕ → Option ℕ
after_spoiled m s = cond (nat_lt s m.size) (m.spoiled s) None

-- the state after n clean quarters
abbrev pub cleans : Model → ℕ → ℕ → ℕ
cleans m zero s = s
cleans m (suc n) s = m.clean (cleans m n s)
