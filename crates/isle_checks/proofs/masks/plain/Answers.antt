use Rattle.isle_checks.proofs.MaskLaws.{plain_more}
use Rattle.isle_checks.proofs.masks.plain.Goals as goal

pub loop-placed-preserved : goal.loop-placed-preserved
loop-placed-preserved c =
    plain_more c.args.group.now c.loop-placed.placed-index c.placed-item.result c.loop-placed.plain.items c.push_plain.new.plain.items c.requires c.loop-placed-test.true c.placed-item.is c.in_ok-push_plain.ensures c.loop-placed.invariant
