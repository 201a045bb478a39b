use Rattle.std.proofs.Common.{drop}
use Rattle.isle_places.specs.Types.{FindsItems}
use Rattle.isle_places.proofs.types.by_name.Given as goal

abbrev pub invariant-loop-index : goal.invariant-loop-index
invariant-loop-index l = FindsItems (drop l.index l.fn.items) l.found
