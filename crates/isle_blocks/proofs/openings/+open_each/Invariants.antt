use Rattle.std.proofs.Common.{length}
use Rattle.isle_blocks.proofs.openings.+open_each.Given as goal

abbrev pub decreases-open_each : goal.decreases-open_each
decreases-open_each l = length l.order.now
