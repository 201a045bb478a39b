use Rattle.std.proofs.Common.{◌≡◌, List, ◌++◌}
use Rattle.std.specs.Iterator.{IsFinite, size}
use Rattle.isle_case_calls.proofs.items.all.Given as goal

abbrev pub invariant-loop-item : goal.invariant-loop-item
invariant-loop-item g l =
    g.I.ContextIter.can_next l.iter × IsFinite (g.I.ContextIter.remaining l.iter)
    × ((items : List g.row.I-Output.Denot) → g.I.ContextIter.has_list l.initial.iter items
    → (rest : List g.row.I-Output.Denot) × (items ≡ l.all.items ++ rest) × g.I.ContextIter.has_list l.iter rest)

abbrev pub decreases-loop-item : goal.decreases-loop-item
decreases-loop-item g l = size (g.I.ContextIter.remaining l.iter)
