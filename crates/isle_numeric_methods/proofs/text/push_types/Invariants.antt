use Rattle.std.proofs.Common.{◌≡◌, ◌++◌, take, string_bytes}
use Rattle.std.specs.List.{flat_map}
use Rattle.isle_numeric_methods.specs.Methods.{type_methods}
use Rattle.isle_numeric_methods.proofs.text.push_types.Given as goal

abbrev pub invariant-loop-ty : goal.invariant-loop-ty
invariant-loop-ty l = string_bytes l.text ≡ string_bytes l.fn.text ++ flat_map type_methods (take l.ty-index l.types)
