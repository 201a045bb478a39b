use Rattle.std.proofs.Common.{drop}
use Rattle.std.specs.Prelude.{◌↔◌}
use Rattle.std.specs.List.{AllByRecursion}
use Rattle.isle_tree.specs.WellFormed.{IsVariant}
use Rattle.isle_tree.proofs.type_items.are_variants.Given as goal

abbrev pub invariant-loop-variant : goal.invariant-loop-variant
invariant-loop-variant l = AllByRecursion IsVariant (drop l.variant-index l.variants) ↔ AllByRecursion IsVariant l.variants
