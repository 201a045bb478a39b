use Rattle.std.proofs.Common.{◌≡◌, ◌++◌, drop}
use Rattle.isle_blocks.specs.Nest.{items_left}
use Rattle.isle_blocks.specs.Tables.{items_in}
use Rattle.isle_blocks.proofs.nest.items_left.Given as goal

abbrev pub invariant-loop-list : goal.invariant-loop-list
invariant-loop-list l =
    let each = items_left (items_in l.tables) l.called in
    l.left.items ++ each (drop l.list-index l.lists) ≡ each l.lists
