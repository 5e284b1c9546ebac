use Rattle.std.proofs.Common.{◌≡◌, ◌+◌, ◌-◌, subst, arith}
use mathlib.Core.Path.{subst⁻¹}
use Rattle.schedules.specs.Foreseen.{begun_at}
use Rattle.schedules.specs.Runs.{completion}
use Rattle.search.proofs.judge.Judge.begin_machine.Goals as goal
use Rattle.search.specs.Jobs.{Resumes}

pub returns-else-begun-quarters : goal.returns-else-begun-quarters
returns-else-begun-quarters g c =
    let m = g.R.Rule.model c.args.self.now.clean.rule.now in
    let V = g.I.Inspection.verdict c.args.self.now.inspection.now in
    let job = c.args.run.job in
    let gone = c.args.run.gone in
    let clock = c.args.now.time in
    let same : clock - gone + gone ≡ clock = omega arith in
    subst⁻¹ (λ h. Resumes m V c.args.now.state clock (completion V job.length (begun_at clock gone h)) job c.begin_unhit.new.row c.begin_unhit.new.finish c.begin_unhit.result.time c.begin_unhit.result.state) c.in-None.is
    (subst (λ n. Resumes m V c.args.now.state n (completion V job.length (clock - gone)) job c.begin_unhit.new.row c.begin_unhit.new.finish c.begin_unhit.result.time c.begin_unhit.result.state) same
    (c.begin_unhit.ensures.path, c.begin_unhit.ensures.inside, c.begin_unhit.ensures.begun job.due c.if-begun-quarters.false))

pub returns-in-Some : goal.returns-in-Some
returns-in-Some g c =
    let m = g.R.Rule.model c.args.self.now.clean.rule.now in
    let V = g.I.Inspection.verdict c.args.self.now.inspection.now in
    let bounded = g.met.I.Inspection.bounded c.args.self.now.inspection.now in
    let job = c.args.run.job in
    subst⁻¹ (λ h. Resumes m V c.args.now.state c.args.now.time (completion V job.length (begun_at c.args.now.time c.args.run.gone h)) job c.begin_hit.new.row c.begin_hit.new.finish c.begin_hit.result.time c.begin_hit.result.state) c.in-Some.is
    (c.begin_hit.ensures.path V bounded, c.begin_hit.ensures.inside, c.begin_hit.ensures.begun V job.due bounded)
