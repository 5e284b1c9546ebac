use Rattle.std.proofs.Common.{length}
use Rattle.shift_text.proofs.numbers.+lengthened.Given as goal

abbrev pub decreases-lengthened : goal.decreases-lengthened
decreases-lengthened l = length l.bytes.now
