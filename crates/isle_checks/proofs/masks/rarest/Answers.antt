use Rattle.isle_checks.proofs.MaskLaws.{rarer_among}
use Rattle.isle_checks.proofs.masks.rarest.Goals as goal

pub loop-x-preserved : goal.loop-x-preserved
loop-x-preserved c = rarer_among c.args.constraints.now c.loop-x.x-index _ c.loop-x.best c.rarer.result _ c.loop-x-test.true c.loop-x.invariant c.rarer.ensures
