use Rattle.reckoning.proofs.OneAnswer.{one_answer, one_world}
use Rattle.reckoning.proofs.Answered.{every_call_answered, any_calls}
use Rattle.reckoning.proofs.theorems.one_answer.Goals as goal

pub returns : goal.returns
returns g c =
    let m = g.R.Rule.model c.args.rule.now in
    let laws = g.met.R.Rule.lawful c.args.rule.now in
    record { answer = one_answer m; world = one_world m; answered = every_call_answered m laws; logs = any_calls m laws }
