use Rattle.std.proofs.Common.{◌≡◌, ◌++◌, drop}
use Rattle.std.specs.List.{AllByRecursion}
use Rattle.isle_tree.specs.WellFormed.{IsVariant}
use Rattle.isle_target.specs.Spelling.{variants_tokens}
use Rattle.isle_target.proofs.types.print_variants.Given as goal

abbrev pub invariant-loop-variant : goal.invariant-loop-variant
invariant-loop-variant l =
    AllByRecursion IsVariant (drop l.variant-index l.variants)
    × (l.out ++ variants_tokens (drop l.variant-index l.variants) ≡ l.fn.out ++ variants_tokens l.variants)
