use Rattle.std.proofs.Common.{◌≡◌, ◌++◌, drop}
use Rattle.isle_blocks.specs.Nest.{left_calls}
use Rattle.isle_blocks.specs.Tables.{next_in}
use Rattle.isle_blocks.proofs.nest.left_calls.Given as goal

abbrev pub invariant-loop-call : goal.invariant-loop-call
invariant-loop-call l =
    let each = left_calls (next_in l.tables) l.bound in
    l.left.items ++ each (drop l.call-index l.calls) ≡ each l.calls
