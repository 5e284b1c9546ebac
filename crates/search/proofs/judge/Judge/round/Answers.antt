use Rattle.std.proofs.Common.{◌≡◌, ℕ, ◌+◌, ◌-◌, get_or, take, refl, subst, arith, length-take}
use Rattle.std.proofs.lemmas.List.{get_or-take}
use Rattle.search.proofs.RoundStates.{ran_more, ran_skip}
use Rattle.search.specs.Rounds.{Ran}
use Rattle.search.proofs.judge.Judge.round.Goals as goal
use Rattle.search.proofs.judge.Judge.round.Goals.{else-latest-gt0-via-else-latest-gt0, else-latest-gt0-via-then-latest-gt0+else-run_from}

pub loop-state-preserved : goal.loop-state-preserved
loop-state-preserved g c =
    let m = g.R.Rule.model c.args.self.now.clean.rule.now in
    let V = g.I.Inspection.verdict c.args.self.now.inspection.now in
    let p = c.args.task.quarters in
    let n = c.loop-state.state in
    let t : ℕ = get_or (take c.size.result c.args.starts.now) n 0 - 1 in
    let same = get_or-take c.size.result c.args.starts.now n 0 (omega arith) in
    elim c.else-latest-gt0.branch [
      | else-latest-gt0-via-then-latest-gt0+else-run_from w ↦
          let i : get_or c.args.starts.now n 0 ≡ t + 1 = omega (arith, same, w.if-latest-gt0.true) in
          let ran = w.if-run_from.ensures in
          simp (w.next-is, w.finish-is) (ran_more m V p c.args.task.due c.args.starts.now n t _ _ _ _ _ _ _ _ i ran.0
          ran.2 refl refl ran.1 c.loop-state.invariant)
      | else-latest-gt0-via-else-latest-gt0 w ↦
          let z : get_or c.args.starts.now n 0 ≡ 0 = omega (arith, same, w.if-latest-gt0.false) in
          simp (w.next-is, w.finish-is) (ran_skip m V p c.args.task.due c.args.starts.now n _ _ _ _ z c.loop-state.invariant)
    ]

pub returns : goal.returns
returns g c =
    let m = g.R.Rule.model c.args.self.now.clean.rule.now in
    let V = g.I.Inspection.verdict c.args.self.now.inspection.now in
    let small = (g.met.R.Rule.lawful c.args.self.now.clean.rule.now).small in
    let all : c.loop-state.state ≡ m.size = omega (arith, c.size.ensures, small, length-take c.size.result c.args.starts.now) in
    subst (λ n. Ran m V c.args.task.quarters c.args.task.due n c.args.starts.now c.args.next.now c.loop-state.next c.args.finish.now c.loop-state.finish) all c.loop-state.invariant
