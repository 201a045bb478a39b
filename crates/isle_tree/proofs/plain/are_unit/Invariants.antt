use Rattle.std.proofs.Common.{◌≡◌, drop}
use Rattle.isle_tree.specs.Plain.{are_unit}
use Rattle.isle_tree.proofs.plain.are_unit.Given as goal

abbrev pub invariant-loop-variant : goal.invariant-loop-variant
invariant-loop-variant l = are_unit (drop l.variant-index l.variants) ≡ are_unit l.variants
