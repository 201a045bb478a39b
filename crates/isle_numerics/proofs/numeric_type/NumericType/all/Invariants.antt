use Rattle.std.proofs.Common.{◌≡◌, take}
use Rattle.isle_numerics.specs.NumericTypes.{numeric_types}
use Rattle.isle_numerics.proofs.numeric_type.NumericType.all.Given as goal

abbrev pub invariant-loop-ty : goal.invariant-loop-ty
invariant-loop-ty l = l.types.items ≡ take l.ty-index numeric_types
