use Rattle.std.proofs.Common.{length}
use Rattle.isle_blocks.proofs.nest.+equals_from.Given as goal

abbrev pub decreases-equals_from : goal.decreases-equals_from
decreases-equals_from l = length l.equals.now
