use Rattle.std.proofs.Common.{drop}
use Rattle.isle_blocks.specs.Nest.{binds}
use Rattle.isle_blocks.specs.Tables.{next_in}
use Rattle.isle_blocks.proofs.PushedBinds.{Left}
use Rattle.isle_blocks.proofs.nest.push_calls.Given as goal

abbrev pub invariant-loop-call : goal.invariant-loop-call
invariant-loop-call l =
    let each = binds l.tables.bindings.now (next_in l.tables) in
    Left (each l.fn.bound l.calls) (each l.bound (drop l.call-index l.calls)) l.fn.bound l.bound l.fn.order.items l.order.items
