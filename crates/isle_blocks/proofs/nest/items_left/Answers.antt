use Rattle.std.proofs.Common.{refl}
use Rattle.isle_blocks.specs.Nest.{items_left}
use Rattle.isle_blocks.specs.Tables.{items_in}
use Rattle.isle_blocks.proofs.PushedBinds.{item_step}
use Rattle.isle_blocks.proofs.nest.items_left.Goals as goal

pub loop-list-preserved : goal.loop-list-preserved
loop-list-preserved c =
    let lists = c.args.lists.now in
    let items = items_in c.args.tables.now in
    item_step items c.args.called.now lists c.loop-list.list-index _ _ c.loop-list.left.items c.push_item.new.left.items (items_left items c.args.called.now lists)
    c.loop-list-test.true refl c.in_ok-push_item.ensures c.loop-list.invariant
