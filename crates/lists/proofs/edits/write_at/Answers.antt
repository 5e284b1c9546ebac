use Rattle.std.proofs.Common.{rules}
use Rattle.lists.proofs.edits.write_at.Goals as goal
use Rattle.std.proofs.lemmas.List.{drop-set-lt, take_more_set}

pub returns : goal.returns
returns g c = search (rules, take_more_set, drop-set-lt)
