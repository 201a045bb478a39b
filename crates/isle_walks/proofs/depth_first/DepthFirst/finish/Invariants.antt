use Rattle.std.proofs.Common.{◌+◌, ◌-◌, ◌*◌, length}
use Rattle.isle_walks.specs.Sound.{IsSound, IsOpen, Grows}
use Rattle.isle_walks.proofs.depth_first.DepthFirst.finish.Given as goal

abbrev pub invariant-loop-node : goal.invariant-loop-node
invariant-loop-node l = record {
  sound : IsSound l.graph l.self;
  grows : Grows l.fn.self.order.items l.self.order.items;
  path : IsOpen l.graph l.self.order.items l.path.items l.start;
}

abbrev pub decreases-loop-node : goal.decreases-loop-node
decreases-loop-node l = 2 * (length l.graph - length l.self.order.items) + (length l.graph - length l.path.items)
