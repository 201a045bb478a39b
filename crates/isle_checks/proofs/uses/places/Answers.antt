use Rattle.std.proofs.Common.{rules}
use Rattle.isle_checks.proofs.PlaceLaws.{id_below, places_more, places_all}
use Rattle.isle_checks.proofs.uses.places.Goals as goal

pub index_mut-requires : goal.index_mut-requires
index_mut-requires c =
    let below = id_below c.args.sets.now c.args.count c.loop-place.place c.index-sets-place.result _ c.requires c.loop-place-test.true c.index-sets-place.is in
    let long = c.loop-place.invariant.many in
    let is = c.index.ensures in
    let all = c.loop-place.table.len in
    search (rules, below, long, is)

pub loop-place-preserved : goal.loop-place-preserved
loop-place-preserved c =
    let below = id_below c.args.sets.now c.args.count c.loop-place.place c.index-sets-place.result _ c.requires c.loop-place-test.true c.index-sets-place.is in
    rw c.index.ensures (places_more c.args.count c.args.sets.now c.loop-place.place c.index-sets-place.result _ c.loop-place.table.items c.loop-place-test.true c.index-sets-place.is below c.loop-place.invariant)

pub returns : goal.returns
returns c = places_all c.args.count c.args.sets.now c.loop-place.place c.loop-place.table.items (search rules) c.loop-place.invariant
