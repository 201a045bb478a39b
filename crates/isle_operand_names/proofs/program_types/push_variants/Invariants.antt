use Rattle.std.proofs.Common.{◌≡◌, ◌++◌, map, drop}
use Rattle.isle_operand_names.specs.Occurring.{variants_types}
use Rattle.isle_operand_names.proofs.program_types.push_variants.Given as goal

abbrev pub invariant-loop-variant : goal.invariant-loop-variant
invariant-loop-variant l = map (λ x. x.now) l.names.items ++ variants_types (drop l.variant-index l.variants) ≡ map (λ x. x.now) l.fn.names.items ++ variants_types l.variants
