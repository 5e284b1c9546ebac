use Rattle.std.proofs.Common.{◌≡◌, length, get_or, refl, subst, arith}
use Rattle.schedules.specs.World.{nobody}
use Rattle.search.proofs.Sequencing.{before_more, late_clean, late_hit}
use Rattle.search.proofs.judge.Judge.first_late.Goals as goal
use Rattle.search.specs.Sequences.{Judged, finish_of}

pub loop-place-preserved : goal.loop-place-preserved
loop-place-preserved g c = (
  c.in-Some.ensures.1,
  λ s0 c0 F small path front.
      before_more (g.R.Rule.model c.args.self.now.clean.rule.now) (g.I.Inspection.verdict c.args.self.now.inspection.now) s0 c0 F c.args.waiting.now c.args.finishes.now (g.met.R.Rule.lawful c.args.self.now.clean.rule.now) (g.met.I.Inspection.bounded c.args.self.now.inspection.now) small
      c.loop-place.place c.loop-place.row c.loop-place.finishes c.loop-place.path.time c.loop-place.path.state (omega arith) (c.loop-place.invariant.1 s0 c0 F small path front)
      c.begin_waiting.new.row c.begin_waiting.new.finish c.in-Some.next.time c.in-Some.next.state c.in-Some.ensures.0
      c.go_through.new.row c.latest.result (omega arith) c.if-go_through.ensures
      (λ s t h. c.latest.ensures.most s t (omega (arith, c.size.ensures)))
      (λ s t h i. let found = c.latest.ensures.reached s t (omega (arith, c.size.ensures)) i in (found.0, omega (arith, found.1, c.size.ensures), found.2)),
)

pub returns-in_default : goal.returns-in_default
returns-in_default g c s0 c0 F small path front = (
  (get_or c.args.waiting.now c.loop-place.place nobody).ticket,
  c.loop-place.place,
  refl,
  late_clean (g.R.Rule.model c.args.self.now.clean.rule.now) (g.I.Inspection.verdict c.args.self.now.inspection.now) s0 c0 F c.args.waiting.now c.args.finishes.now (g.met.R.Rule.lawful c.args.self.now.clean.rule.now) (g.met.I.Inspection.bounded c.args.self.now.inspection.now) small
      c.loop-place.place c.loop-place.row c.loop-place.finishes c.loop-place.path.time c.loop-place.path.state (omega arith) (c.loop-place.invariant.1 s0 c0 F small path front)
      c.in_default.ensures,
)

pub returns-then-go_through : goal.returns-then-go_through
returns-then-go_through g c s0 c0 F small path front = (
  (get_or c.args.waiting.now c.loop-place.place nobody).ticket,
  c.loop-place.place,
  refl,
  late_hit (g.R.Rule.model c.args.self.now.clean.rule.now) (g.I.Inspection.verdict c.args.self.now.inspection.now) s0 c0 F c.args.waiting.now c.args.finishes.now (g.met.R.Rule.lawful c.args.self.now.clean.rule.now) (g.met.I.Inspection.bounded c.args.self.now.inspection.now) small
      c.loop-place.place c.loop-place.row c.loop-place.finishes c.loop-place.path.time c.loop-place.path.state (omega arith) (c.loop-place.invariant.1 s0 c0 F small path front)
      c.begin_waiting.new.row c.begin_waiting.new.finish c.in-Some.next.time c.in-Some.next.state c.in-Some.ensures.0 c.if-go_through.ensures,
)

pub returns-after-loop-place : goal.returns-after-loop-place
returns-after-loop-place g c s0 c0 F small path front =
    let all : c.loop-place.place ≡ length c.args.waiting.now = omega arith in
    subst (λ n. Judged (g.R.Rule.model c.args.self.now.clean.rule.now) s0 c0 (finish_of (g.I.Inspection.verdict c.args.self.now.inspection.now) F c.args.waiting.now) c.args.waiting.now n c.args.finishes.now c.loop-place.finishes) all (c.loop-place.invariant.1 s0 c0 F small path front).judged
