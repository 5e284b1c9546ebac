use Rattle.schedules.proofs.FirstClear.{finish_at_end, finish_at_fault}
use Rattle.schedules.proofs.theorems.completion_is_least.Goals as goal

pub returns : goal.returns
returns c = record { fault = finish_at_fault; end = finish_at_end }
