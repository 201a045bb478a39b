use Rattle.std.proofs.Common.{◌≡◌, map, take}
use Rattle.isle_ast.specs.Views.{defs as seen}
use Rattle.isle_types.specs.TypeEnvironment.{variant_in}
use Rattle.isle_types.proofs.type_environment.variants_of.Given as goal

abbrev pub invariant-loop-variant : goal.invariant-loop-variant
invariant-loop-variant l = l.variants.items ≡ map (variant_in (seen l.names.declarations.now)) (take l.variant-index l.given)
