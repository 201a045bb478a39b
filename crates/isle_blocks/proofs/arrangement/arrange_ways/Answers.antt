use Rattle.std.proofs.Common.{◌+◌, map, take, sym, subst}
use Rattle.isle_blocks.specs.Arranged.{AreEachArranged, arranged_way}
use Rattle.isle_blocks.specs.Ways.{parted_way}
use Rattle.isle_blocks.proofs.ArrangedWays.{arranged_more}
use Rattle.isle_blocks.proofs.arrangement.arrange_ways.Goals as goal

pub loop-way-preserved : goal.loop-way-preserved
loop-way-preserved c =
    let ws = c.args.ways.now in
    let i = c.loop-way.way-index in
    let w = c.way-item.result in
    let one = c.in_ok-arranged.arranged in
    subst (λ all. AreEachArranged c.args.turns.now (map parted_way (take (i + 1) ws)) (map arranged_way all)) (sym c.in_ok-push.ensures.items)
    (arranged_more c.args.turns.now ws i w w c.loop-way.all.items one c.loop-way-test.true c.way-item.is c.in_ok-arranged.ensures c.loop-way.invariant)
