use Rattle.std.proofs.Common.{drop}
use Rattle.isle_places.specs.Types.{FindsVariants}
use Rattle.isle_places.proofs.types.by_variant.Given as goal

abbrev pub invariant-loop-index : goal.invariant-loop-index
invariant-loop-index l = FindsVariants (drop l.index l.fn.variants) l.found
