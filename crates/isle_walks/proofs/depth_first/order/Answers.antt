use Rattle.std.proofs.Common.{arith}
use Rattle.isle_walks.proofs.Orders.{order_found}
use Rattle.isle_walks.proofs.depth_first.order.Goals as goal

pub returns : goal.returns
returns c = order_found c.args.graph.now c.loop-node.search.looked.items c.loop-node.search.done.items c.loop-node.search.order.items c.loop-node.invariant.sound
    (λ node lt. c.loop-node.invariant.known node (omega (arith, c.loop-node-test.false)))
