use Rattle.std.proofs.Common.{◌≡◌, map, take}
use Rattle.isle_lawful_names.specs.TypeItems.{variant_item}
use Rattle.isle_lawful_names.proofs.items.variant_items.Given as goal

abbrev pub invariant-loop-variant : goal.invariant-loop-variant
invariant-loop-variant l = l.variants.items ≡ map (variant_item l.types) (take l.variant-index l.given)
