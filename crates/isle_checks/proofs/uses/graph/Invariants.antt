use Rattle.std.proofs.Common.{◌≡◌, take}
use Rattle.isle_checks.specs.Graph.{graph_by}
use Rattle.isle_checks.proofs.uses.graph.Given as goal

abbrev pub invariant-loop-set : goal.invariant-loop-set
invariant-loop-set l = l.graph.items ≡ graph_by l.terms l.table.items (take l.set-index l.sets)
