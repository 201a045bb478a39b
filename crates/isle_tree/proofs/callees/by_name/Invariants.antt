use Rattle.std.proofs.Common.{drop}
use Rattle.isle_tree.specs.Callees.{FindsCallees}
use Rattle.isle_tree.proofs.callees.by_name.Given as goal

abbrev pub invariant-loop-index : goal.invariant-loop-index
invariant-loop-index l = FindsCallees (drop l.index l.fn.fns) l.found
