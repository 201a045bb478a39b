use Rattle.std.proofs.Common.{◌≡◌, take, length}
use Rattle.isle_scope.specs.Log.{Finds}
use Rattle.isle_scope.specs.Places.{look_in}
use Rattle.isle_scope.proofs.scope.undo_to.Given as goal

abbrev pub invariant-loop-log : goal.invariant-loop-log
invariant-loop-log l = Finds l.log.items (look_in l.places) × (take l.len l.log.items ≡ take l.len l.fn.log.items)

abbrev pub decreases-loop-log : goal.decreases-loop-log
decreases-loop-log l = length l.log.items
