use mathlib.Core.Path.{subst⁻¹}
use Rattle.std.proofs.Common.{◌+◌, arith}
use Rattle.search.proofs.Dropping.{Dropped, dropped_all, dropped_more}
use Rattle.search.proofs.rows.drop_before.Goals as goal
use Rattle.search.proofs.rows.drop_before.Goals.{else-latest-time, then-latest-time}

pub loop-latest-preserved : goal.loop-latest-preserved
loop-latest-preserved c =
    let r = c.args.time in
    let n = c.loop-latest.latest-index in
    let old = c.args.row.now in
    elim c.if-latest-time.branch [
      | then-latest-time w ↦
          subst⁻¹ (Dropped r (n + 1) old) w.row-is
          (dropped_more r n _ old c.loop-latest.row (omega arith) (λ t. (λ i. absurd (omega arith), λ i. absurd (omega (arith, i.0, i.1, w.if-latest-time.true)))) c.loop-latest.invariant)
      | else-latest-time w ↦
          subst⁻¹ (Dropped r (n + 1) old) w.row-is
          (dropped_more r n _ old c.loop-latest.row (omega arith) (λ t. (λ i. (i, omega (arith, w.if-latest-time.false)), λ i. i.0)) c.loop-latest.invariant)
    ]

pub returns : goal.returns
returns c = dropped_all c.args.time c.loop-latest.latest-index c.args.row.now c.loop-latest.row (omega arith) c.loop-latest.invariant
