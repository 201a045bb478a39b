use Rattle.std.proofs.Common.{◌+◌, ◌-◌, length}
use Rattle.isle_scope.specs.Places.{look_near, AreSame}
use Rattle.isle_scope.proofs.places.reach.Given as goal

abbrev pub invariant-loop-near : goal.invariant-loop-near
invariant-loop-near l = AreSame (look_near l.fn.near.items) (look_near l.near.items)

abbrev pub decreases-loop-near : goal.decreases-loop-near
decreases-loop-near l = l.local + 1 - length l.near.items
