use Rattle.std.proofs.Common.{◌++◌, drop, refl, inl, inr, ap, ◌∙◌, arith}
use Rattle.std.proofs.lemmas.List.{take-append-drop}
use Rattle.schedules.specs.World.{World, world_at}
use Rattle.search.proofs.Exact.{found}
use Rattle.search.proofs.Sweeping.{swept}
use Rattle.search.proofs.board_search.search.Goals as goal

pub returns : goal.returns
returns g c =
    let m = g.R.Rule.model c.args.rule.now in
    let V = g.I.Inspection.verdict c.args.inspection.now in
    let bounded = g.met.I.Inspection.bounded c.args.inspection.now in
    let w : World = world_at c.args.moment c.args.waiting.now in
    let fit = c.if-not-is_fit.ensures in
    let distinct = c.if-not-are_all_distinct.ensures in
    let room = c.in-Some.ensures.cases.enough in
    inr (
      λ out. out fit,
      inr (
        λ same. same distinct,
        inr (
          λ short. omega (arith, room),
          inr (
            λ few. omega (arith, c.jobs_on.ensures),
            (
              swept c.args.table.now c.first_late_of_board-found.new.work c.fill.new.self (omega arith) (c.fill.ensures.after (λ y e. e)),
              found m V bounded w fit distinct c.args.finishes.now c.first_late_of_board-found.new.finishes c.first_late_of_board-found.result c.first_late_of_board-found.ensures,
            ),
          ),
        ),
      ),
    )

pub returns-then-finishes-jobs_on : goal.returns-then-finishes-jobs_on
returns-then-finishes-jobs_on g c =
    let room = c.in-Some.ensures.cases.enough in
    let whole = ap (λ l. l ++ drop 16384 c.args.table.now) c.in-Some.ensures.cases.same ∙ take-append-drop 16384 c.args.table.now in
    inr (
      λ out. out c.if-not-is_fit.ensures,
      inr (
        λ same. same c.if-not-are_all_distinct.ensures,
        inr (
          λ short. omega (arith, room),
          inl (omega (arith, c.jobs_on.ensures), (refl, refl, whole)),
        ),
      ),
    )
