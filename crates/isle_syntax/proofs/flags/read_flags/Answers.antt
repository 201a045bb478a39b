use Rattle.std.proofs.Common.{rules}
use Rattle.isle_reading.proofs.Steps.{words-more}
use Rattle.isle_syntax.proofs.flags.read_flags.Goals as goal

pub loop-preserved : goal.loop-preserved
loop-preserved c = words-more _ _ _ _ _ _ _ _ c.loop-test.true (search rules) c.skip.ensures c.loop.invariant
