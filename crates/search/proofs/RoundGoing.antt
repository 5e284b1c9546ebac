-- Round after round.
use Rattle.std.proofs.Common.{◌≡◌, ℕ, ◌+◌, ◌-◌, ◌<◌, ◌≤◌, ◌⊎◌, List, Some, get_or, refl, subst, inl, inr, ⊎_elim, arith}
use Rattle.inspections.specs.Verdict.{Bounded, Verdict}
use Rattle.rules.specs.Model.{Laws, Model, cleans}
use Rattle.rules.proofs.Cleans.{cleans_stay}
use Rattle.schedules.proofs.States.{above_cleans}
use Rattle.search.proofs.Cleans.{cleans_keep}
use Rattle.search.proofs.Ways.{covered_from, covered_grows}
use Rattle.search.specs.Chains.{Starts}
use Rattle.search.specs.Fronts.{Covered}
use Rattle.search.specs.RoundChains.{Chain, Ends, Goes, Late, Searched, Strike, again, cleanly, faultily, first, still}
use Rattle.search.specs.Hits.{Hit}
use Rattle.search.specs.Rounds.{CleanOf, HitOf, LateOf, Ran}
use Rattle.search.specs.Rows.{Empty, Grew, In}

-- a start from which a clean run keeps the due quarter, and whose end is covered
pub record Done (m : Model) (p due : ℕ) (finish : List ℕ) (s t : ℕ) : Type 0 where
  pub on_time : t + p ≤ due
  pub end : Covered m finish (cleans m p s) (t + p)

-- what is known before the round k
pub record Going (m : Model) (V : Verdict) (p due k : ℕ) (row cur finish finish' : List ℕ) : Type 0 where
  pub reached : (s t : ℕ) → s < m.size → In cur s t → Chain (Hit m V p 0 p) (Starts m row) s t
  pub later : (s t : ℕ) → s < m.size → In cur s t → k ≤ t
  pub sooner : 0 < k → (s t : ℕ) → s < m.size → In cur s t → t ≤ due
  pub ended : (s f : ℕ) → In finish' s f → In finish s f ⊎ Ends m (Hit m V p 0 p) p (Starts m row) s f
  pub covered : (s t : ℕ) → Chain (Strike m V p) (Covered m row) s t → Done m p due finish' s t ⊎ Chain (Strike m V p) (Covered m cur) s t
  pub keeps : (s : ℕ) → get_or finish s 0 ≤ get_or finish' s 0

-- any faults on the way leave a state that is no freer than none would
module _ (m : Model) (laws : Laws m) where
  goes_stays : {n s u : ℕ} → s < m.size → Goes m n s u → u < m.size
  goes_stays h still = h
  goes_stays h (cleanly g) = laws.clean_stays _ (goes_stays h g)
  goes_stays h (faultily g e) = laws.spoiled_stays _ _ (goes_stays h g) e

  goes_freer : {n s u : ℕ} → s < m.size → Goes m n s u → m.Freer (cleans m n s) u
  goes_freer h still = laws.reflexive _ h
  goes_freer h (cleanly {n} {s} {u} g) = laws.clean_keeps (cleans m n s) u (cleans_stay m laws n s h) (goes_stays h g) (goes_freer h g)
  goes_freer h (faultily {n} {s} {u} {v} g e) =
      laws.transitive (m.clean (cleans m n s)) (m.clean u) v (laws.clean_stays _ (cleans_stay m laws n s h)) (laws.clean_stays _ (goes_stays h g)) (laws.spoiled_stays u v (goes_stays h g) e)
      (laws.clean_keeps (cleans m n s) u (cleans_stay m laws n s h) (goes_stays h g) (goes_freer h g))
      (laws.clean_beats_spoiled u v (goes_stays h g) e)

module _ (m : Model) (laws : Laws m) (V : Verdict) (bounded : Bounded V) (p due : ℕ) where
  -- where a run may be given up, one that starts later and freer may be too, later and freer
  covered_hit : (row zeros next : List ℕ) → Grew (HitOf m V p m.size row) zeros next → (s t s' t' : ℕ) → Covered m row s t → Strike m V p s t s' t' → Covered m next s' t'
  covered_hit row zeros next g s t s' t' a h =
      let n = h.before in
      let q = V p (n + 1) - (n + 1) in
      let fs = cleans_stay m laws n a.state a.freer.0 in
      let ts = cleans_stay m laws n s a.freer.1 in
      let fr = cleans_keep m laws n a.state s a.freer.0 a.freer.1 a.freer.2 in
      let sp = laws.spoiled_keeps (cleans m n a.state) (cleans m n s) h.spoiled fs ts fr h.permitted in
      let v = sp.0 in
      let vs = laws.spoiled_stays (cleans m n a.state) v fs sp.1 in
      let us = laws.spoiled_stays (cleans m n s) h.spoiled ts h.permitted in
      let none_gone : n ≡ n - 0 = omega arith in
      let permitted = subst (λ k. m.spoiled (cleans m k a.state) ≡ Some v) none_gone sp.1 in
      let hit : Hit m V p 0 p a.state a.time (cleans m q v) (a.time + V p (n + 1)) = record { before = n; gone = omega arith; early = h.early; spoiled = v; permitted = permitted; state = refl; time = refl } in
      let cov = g.covers (cleans m q v) (a.time + V p (n + 1)) (record { from = a.state; start = a.time; below = a.freer.0; starts = a.entry; hit = hit }) in
      covered_from m next (cleans m q v) (a.time + V p (n + 1)) s' t' cov (omega (arith, h.time, a.later)) (
        cleans_stay m laws q v vs,
        goes_stays m laws us h.goes,
        laws.transitive (cleans m q v) (cleans m q h.spoiled) s' (cleans_stay m laws q v vs) (cleans_stay m laws q h.spoiled us) (goes_stays m laws us h.goes) (cleans_keep m laws q v h.spoiled vs us sp.2) (goes_freer m laws us h.goes),
      )

  -- a chain from a row is a start of it, or a chain from the next
  chain_on : (row zeros next : List ℕ) → Grew (HitOf m V p m.size row) zeros next → (s t : ℕ) → Chain (Strike m V p) (Covered m row) s t → Covered m row s t ⊎ Chain (Strike m V p) (Covered m next) s t
  chain_on row zeros next g s t (first a) = inl a
  chain_on row zeros next g s' t' (again {s} {t} r h) =
      ⊎_elim (λ a. inr (first (covered_hit row zeros next g s t s' t' a h))) (λ c. inr (again c h)) (chain_on row zeros next g s t r)

  chain_none : (row : List ℕ) → ((s t : ℕ) → s < m.size → In row s t → ⊥) → (s t : ℕ) → Chain (Strike m V p) (Covered m row) s t → ⊥
  chain_none row e s t (first a) = e a.state a.time a.freer.0 a.entry
  chain_none row e s' t' (again {s} {t} r h) = chain_none row e s t r

  -- a start of the row is done with
  covered_done : (row finish finish' : List ℕ) → ((s t : ℕ) → s < m.size → In row s t → t + p ≤ due) → Grew (CleanOf m p m.size row) finish finish'
      → (s t : ℕ) → Covered m row s t → Done m p due finish' s t
  covered_done row finish finish' o g s t a = record {
    on_time = omega (arith, o a.state a.time a.freer.0 a.entry, a.later);
    end = covered_from m finish' (cleans m p a.state) (a.time + p) (cleans m p s) (t + p)
        (g.covers (cleans m p a.state) (a.time + p) (record { from = a.state; start = a.time; below = a.freer.0; starts = a.entry; state = refl; time = refl }))
        (omega (arith, a.later)) (above_cleans m laws p a.state s a.freer);
  }

  done_grows : (old new : List ℕ) → ((s : ℕ) → get_or old s 0 ≤ get_or new s 0) → (s t : ℕ) → Done m p due old s t → Done m p due new s t
  done_grows old new k s t d = record { on_time = d.on_time; end = covered_grows m old new k (cleans m p s) (t + p) d.end }

  pub going_none : (row finish : List ℕ) → Going m V p due 0 row row finish finish
  going_none row finish = record {
    reached = λ s t l e. first (l, e);
    later = λ s t l e. omega arith;
    sooner = λ z. let bad : ⊥ = omega arith in absurd bad;
    ended = λ s f e. inl e;
    covered = λ s t c. inr c;
    keeps = λ s. omega arith;
  }

  hit_timed : (k t s t' s' : ℕ) → k ≤ t → t + p ≤ due → Hit m V p 0 p s t s' t' → (k + 1 ≤ t') × (t' ≤ due)
  hit_timed k t s t' s' l o h =
      let a = bounded.from_fault p (h.before + 1) (omega arith) (omega (arith, h.early)) in
      let b = bounded.to_end p (h.before + 1) (omega arith) (omega (arith, h.early)) in
      (omega (arith, h.time), omega (arith, h.time))

  pub going_more : (k : ℕ) (row cur zeros next finish finish' finish'' : List ℕ) → Empty zeros
      → Ran m V p due m.size cur zeros next finish' finish'' → Going m V p due k row cur finish finish' → Going m V p due (k + 1) row next finish finish''
  going_more k row cur zeros next finish finish' finish'' z r g = record {
    reached = λ s t l e. ⊎_elim (λ i. let bad : ⊥ = omega (arith, z s) in absurd bad)
        (λ h. again (g.reached h.from h.start h.below h.starts) h.hit) (r.given_up.sound s t e);
    later = λ s t l e. ⊎_elim (λ i. let bad : ⊥ = omega (arith, z s) in absurd bad)
        (λ h. (hit_timed k h.start h.from t s (g.later h.from h.start h.below h.starts) (r.on_time h.from h.start h.below h.starts) h.hit).0) (r.given_up.sound s t e);
    sooner = λ _ s t l e. ⊎_elim (λ i. let bad : ⊥ = omega (arith, z s) in absurd bad)
        (λ h. (hit_timed k h.start h.from t s (g.later h.from h.start h.below h.starts) (r.on_time h.from h.start h.below h.starts) h.hit).1) (r.given_up.sound s t e);
    ended = λ s f e. ⊎_elim (λ i. g.ended s f i)
        (λ h. inr (record { from = h.from; start = h.start; chain = g.reached h.from h.start h.below h.starts; state = h.state; time = h.time })) (r.finished.sound s f e);
    covered = λ s t c. ⊎_elim (λ d. inl (done_grows finish' finish'' r.finished.keeps s t d))
        (λ d. ⊎_elim (λ a. inl (covered_done cur finish' finish'' r.on_time r.finished s t a)) (λ e. inr e) (chain_on cur zeros next r.given_up s t d)) (g.covered s t c);
    keeps = λ s. omega (arith, g.keeps s, r.finished.keeps s);
  }

  -- no run is left to start
  pub going_all : (k : ℕ) (row cur finish finish' : List ℕ) → ((s t : ℕ) → s < m.size → In cur s t → ⊥) → Going m V p due k row cur finish finish' → Searched m V p due row finish finish'
  going_all k row cur finish finish' e g = record {
    on_time = λ s t c. ⊎_elim (λ d. d.on_time) (λ d. absurd (chain_none cur e s t d)) (g.covered s t c);
    sound = g.ended;
    covers = λ s t c. ⊎_elim (λ d. d.end) (λ d. absurd (chain_none cur e s t d)) (g.covered s t c);
    keeps = g.keeps;
  }

  -- past the due quarter no run is left to start
  pub going_out : (k : ℕ) (row cur finish finish' : List ℕ) → due < k → Going m V p due k row cur finish finish' → Searched m V p due row finish finish'
  going_out k row cur finish finish' past g =
      going_all k row cur finish finish' (λ s t l e. omega (arith, g.later s t l e, g.sooner (omega arith) s t l e)) g

  pub going_late : (k : ℕ) (row cur finish finish' : List ℕ) → LateOf p m.size due cur → Going m V p due k row cur finish finish' → Late (Hit m V p 0 p) p due (Starts m row)
  going_late k row cur finish finish' l g = record { from = l.from; start = l.start; chain = g.reached l.from l.start l.below l.starts; passes = l.passes }
