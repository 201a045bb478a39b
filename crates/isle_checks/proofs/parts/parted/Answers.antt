use Rattle.isle_checks.proofs.PartLaws.{part_more}
use Rattle.isle_checks.proofs.parts.parted.Goals as goal

pub loop-placed-preserved : goal.loop-placed-preserved
loop-placed-preserved c =
    part_more c.args.group.now c.loop-placed.placed-index c.placed-item.result c.loop-placed.parts.keyed.items c.loop-placed.parts.others.items c.push.new.self.keyed.items c.push.new.self.others.items
    c.requires c.loop-placed-test.true c.placed-item.is c.in_ok-push.ensures c.loop-placed.invariant
