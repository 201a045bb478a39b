use Rattle.std.proofs.Common.{◌≡◌, ◌++◌, List}
use Rattle.std.specs.Iterator.{IsFinite, Yields, size}
use Rattle.isle_runtime.proofs.lists.append.Given as goal

abbrev pub invariant-loop-items : goal.invariant-loop-items
invariant-loop-items g l =
    g.It.Iterator.can_next l.items × IsFinite (g.It.Iterator.remaining l.items)
    × (given : List g.row.T.Denot) × Yields g.It.Iterator.next_gives l.initial.items given l.items × (l.list.items ≡ l.initial.list.items ++ given)

abbrev pub decreases-loop-items : goal.decreases-loop-items
decreases-loop-items g l = size (g.It.Iterator.remaining l.items)
