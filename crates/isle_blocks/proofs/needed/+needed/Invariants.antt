use Rattle.std.proofs.Common.{◌+◌, ◌*◌, drop}
use Rattle.isle_blocks.specs.Needed.{needed, each_needed}
use Rattle.isle_blocks.proofs.PushedBinds.{Left}
use Rattle.isle_blocks.proofs.needed.+needed.Given as goal

abbrev pub decreases-push_needed : goal.decreases-push_needed
decreases-push_needed l = 2 * l.depth

abbrev pub decreases-push_each : goal.decreases-push_each
decreases-push_each l = 2 * l.depth + 1

abbrev pub invariant-push_each-loop-read : goal.invariant-push_each-loop-read
invariant-push_each-loop-read l =
    let one = needed l.bindings l.depth in
    Left (each_needed one l.fn.bound l.reads) (each_needed one l.bound (drop l.read-index l.reads)) l.fn.bound l.bound l.fn.order.items l.order.items
