use Rattle.std.proofs.Common.{ℕ, ◌<◌, List, set, Some, Err, arith}
use Rattle.calls.specs.declared.refusal.Refusal.TheVariants.{Late}
use Rattle.schedules.specs.Foreseen.{free}
use Rattle.schedules.specs.World.{World}
use Rattle.search.proofs.Boards.{judges_first, judges_machine, judges_run}
use Rattle.search.proofs.Sequencing.{front_by, front_latest}
use Rattle.search.proofs.judge.Judge.first_late_behind.Goals as goal
use Rattle.search.specs.Rows.{In}
use Rattle.search.specs.Sequences.{board_finish}
use Rattle.std.proofs.lemmas.List.{take_rest}

pub returns-then-go_through : goal.returns-then-go_through
returns-then-go_through g c =
    let m = g.R.Rule.model c.args.self.now.clean.rule.now in
    let V = g.I.Inspection.verdict c.args.self.now.inspection.now in
    let w : World = record { clock = c.args.moment.clock; state = c.args.moment.state; machine = Some c.args.run; waiting = c.args.waiting.now } in
    judges_machine m V c.args.moment.clock c.args.moment.state c.args.moment.machine c.args.run c.args.waiting.now c.args.finishes.now c.args.finishes.now (Err (Late c.args.run.job.ticket)) c.requires.machine
    (judges_first m c.args.moment.state c.args.moment.clock (board_finish V w) c.args.run.job c.args.waiting.now c.args.finishes.now
    (c.if-go_through.ensures c.args.moment.state c.args.moment.clock (free V c.args.moment.clock (Some c.args.run)) c.in-Some.ensures.2))

pub returns : goal.returns
returns g c =
    let m = g.R.Rule.model c.args.self.now.clean.rule.now in
    let V = g.I.Inspection.verdict c.args.self.now.inspection.now in
    let s0 = c.args.moment.state in
    let c0 = c.args.moment.clock in
    let F : List ℕ → ℕ = free V c0 (Some c.args.run) in
    let resumed = c.in-Some.ensures in
    let ended = c.if-go_through.ensures s0 c0 F resumed.2 in
    let inside : (n : ℕ) → n < m.size → n < c.size.result = λ n h. omega (arith, c.size.ensures) in
    let outside : (n : ℕ) → n < c.size.result → n < m.size = λ n h. omega (arith, c.size.ensures) in
    let reached : (s t : ℕ) → s < m.size → In c.go_through.new.row s t → (u : ℕ) × (u < m.size) × In c.go_through.new.row u c.latest.result =
    λ s t h i. (let (u, below, entry) = c.latest.ensures.reached s t (inside s h) i in (u, outside u below, entry)) in
    judges_machine m V c0 s0 c.args.moment.machine c.args.run c.args.waiting.now c.args.finishes.now _ c.first_late.result c.requires.machine
    (judges_run m V c0 s0 c.args.run c.args.waiting.now c.args.finishes.now _ c.first_late.new.finishes c.latest.result c.first_late.result (omega arith) (take_rest (set c.args.finishes.now 0 c.latest.result) 1)
    (front_latest m V s0 c0 F c.go_through.new.row c.latest.result ended.0 (λ s t h. c.latest.ensures.most s t (inside s h)) reached)
    (front_by m V s0 c0 F c.go_through.new.row c.latest.result c.args.run.job.due ended.0 ended.1 reached)
    (c.first_late.ensures s0 c0 F c.requires.fit.state resumed.0 ended.0))
