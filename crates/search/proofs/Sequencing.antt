-- A sequence of jobs, one after the other.
use Rattle.std.proofs.Common.{◌≡◌, ℕ, zero, suc, ◌+◌, ◌<◌, ◌≤◌, max, List, [], ◌∷◌, length, get_or, set, refl, ◌∙◌, subst, ⊎_elim, add-one, arith, get_or-set_other, get_or-set_same}
use mathlib.Core.Path.{subst⁻¹}
use Rattle.calls.specs.declared.call.Job.{Job}
use Rattle.inspections.specs.Verdict.{Bounded, Verdict}
use Rattle.rules.specs.Model.{Laws, Model}
use Rattle.schedules.specs.Futures.{and_then}
use Rattle.schedules.specs.World.{nobody}
use Rattle.search.specs.Fronts.{Begun, By, CanPass, Front, Latest, Path}
use Rattle.search.specs.Jobs.{BeginsJob, EndsJob, LateJob, slot}
use Rattle.search.specs.Rows.{In}
use Rattle.search.specs.Sequences.{Judged, LateAt, finish_of, upto}
use Rattle.std.proofs.lemmas.Bool.{cases_lt}

-- one job more is the next job
pub upto_more : (V : Verdict) (F : List ℕ → ℕ) (n : ℕ) (js : List Job) → n < length js → upto V F (suc n) js ≡ and_then V (upto V F n js) (slot (get_or js n nobody))
upto_more V F n [] h = absurd (omega arith)
upto_more V F zero (j ∷ js) h = refl
upto_more V F (suc n) (j ∷ js) h = upto_more V (and_then V F (slot j)) n js (omega arith)

module _ (m : Model) (V : Verdict) (s0 c0 : ℕ) where
  -- the latest time of a row is the latest that the jobs come to
  pub front_latest : (F : List ℕ → ℕ) (row : List ℕ) (r : ℕ) → Front m V s0 c0 F row → ((s t : ℕ) → s < m.size → In row s t → t ≤ r) →
      ((s t : ℕ) → s < m.size → In row s t → (u : ℕ) × (u < m.size) × In row u r) → Latest m s0 c0 F r
  front_latest F row r front most reached = (
    (
        let found = (front.covers [] tt).1 in
        let (u, inside, entry) = reached found.state found.time found.freer.0 found.entry in
        let from = front.reached u r (inside, entry) [] tt in
        (from.0, from.1, from.2)
        ),
    λ h a. let found = (front.covers h a).1 in omega (arith, found.later, most found.state found.time found.freer.0 found.entry),
  )

  -- and it is by the due quarter where each time of the row is
  pub front_by : (F : List ℕ → ℕ) (row : List ℕ) (r due : ℕ) → Front m V s0 c0 F row → By m due row →
      ((s t : ℕ) → s < m.size → In row s t → (u : ℕ) × (u < m.size) × In row u r) → r ≤ due
  front_by F row r due front by reached =
      let found = (front.covers [] tt).1 in
      let (u, inside, entry) = reached found.state found.time found.freer.0 found.entry in
      by u r (inside, entry)

  module _ (F : List ℕ → ℕ) (js : List Job) (old : List ℕ) where
    -- what is known before job n: the path without faults comes to t in the state s
    pub record Before (n : ℕ) (row new : List ℕ) (t s : ℕ) : Type 0 where
      pub path : Path m s0 c0 (upto V F n js) t s
      pub front : Front m V s0 c0 (upto V F n js) row
      pub judged : Judged m s0 c0 (finish_of V F js) js n old new

    module _ (laws : Laws m) (bounded : Bounded V) (small : s0 < m.size) (n : ℕ) (row new : List ℕ) (t s : ℕ) (within : n < length js) (before : Before n row new t s) where
      abbrev this : Job
      this = get_or js n nobody

      -- job n is late with no fault
      pub late_clean : this.due < max this.release t + this.length → LateAt m s0 c0 (finish_of V F js) js old new this.ticket n
      late_clean late = record {
        within = within;
        ticket = refl;
        late = subst⁻¹ (λ G. CanPass m s0 c0 G this.due) (upto_more V F n js within) ([], tt, omega (arith, before.path.time));
        before = before.judged;
      }

      module _ (row' finish' : List ℕ) (t' s' : ℕ) (begins : BeginsJob m this t s row row' finish' t' s') where
        begun : Path m s0 c0 (and_then V (upto V F n js) (slot this)) t' s' × Begun m V s0 c0 (and_then V (upto V F n js) (slot this)) this.length this.due row' finish'
        begun = begins V bounded s0 c0 (upto V F n js) small before.path before.front

        -- job n can be late
        pub late_hit : LateJob m V this row' finish' → LateAt m s0 c0 (finish_of V F js) js old new this.ticket n
        late_hit late = record {
          within = within;
          ticket = refl;
          late = subst⁻¹ (λ G. CanPass m s0 c0 G this.due) (upto_more V F n js within) (late s0 c0 (and_then V (upto V F n js) (slot this)) begun.1);
          before = before.judged;
        }

        -- job n cannot be late
        pub before_more : (row'' : List ℕ) (r : ℕ) → n < length new → EndsJob m V this row' finish' row'' → ((s t : ℕ) → s < m.size → In row'' s t → t ≤ r) →
            ((s t : ℕ) → s < m.size → In row'' s t → (u : ℕ) × (u < m.size) × In row'' u r) → Before (n + 1) row'' (set new n r) t' s'
        before_more row'' r room ends most reached =
            subst⁻¹ (λ k. Before k row'' (set new n r) t' s') (add-one n) (record {
              path = subst⁻¹ (λ G. Path m s0 c0 G t' s') next begun.0;
              front = subst⁻¹ (λ G. Front m V s0 c0 G row'') next front;
              judged = record {
                latest = λ k h. ⊎_elim (λ old_k. subst⁻¹ (Latest m s0 c0 (upto V F (suc k) js)) (still k (omega arith)) (before.judged.latest k old_k))
                    (λ new_k.
                    let is : n ≡ k = omega arith in
                    subst (λ x. Latest m s0 c0 (upto V F (suc x) js) (get_or (set new n r) x 0)) is
                    (subst⁻¹ (Latest m s0 c0 (upto V F (suc n) js)) set_to (subst⁻¹ (λ G. Latest m s0 c0 G r) next (front_latest _ row'' r front most reached)))) (cases_lt k n);
                on_time = λ k h. ⊎_elim (λ old_k. omega (arith, still k (omega arith), before.judged.on_time k old_k))
                    (λ new_k.
                    let is : n ≡ k = omega arith in
                    subst (λ x. get_or (set new n r) x 0 ≤ (get_or js x nobody).due) is (omega (arith, set_to, front_by _ row'' r this.due front ended.1 reached))) (cases_lt k n);
                rest = λ k h. still k (omega arith) ∙ before.judged.rest k (omega arith);
              };
            })
          where
            next : upto V F (suc n) js ≡ and_then V (upto V F n js) (slot this)
            next = upto_more V F n js within

            ended : Front m V s0 c0 (and_then V (upto V F n js) (slot this)) row'' × By m this.due row''
            ended = ends s0 c0 (and_then V (upto V F n js) (slot this)) begun.1

            front : Front m V s0 c0 (and_then V (upto V F n js) (slot this)) row''
            front = ended.0

            set_to : get_or (set new n r) n 0 ≡ r
            set_to = get_or-set_same new n r 0 room

            still : (k : ℕ) → (k ≡ n → ⊥) → get_or (set new n r) k 0 ≡ get_or new k 0
            still k other = rw get_or-set_other
