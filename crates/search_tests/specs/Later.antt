-- An inspection that is neither at the end nor in the quarter of the fault.
use Rattle.std.specs.Prelude.{◌+◌, min}
use Rattle.inspections.specs.Verdict.{Verdict, in_run}

-- the run is given up one quarter after its first fault, at its end at the latest
abbrev pub quarter_later : Verdict
quarter_later p x = in_run p x (min (x + 1) p)
