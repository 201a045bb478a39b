use Rattle.std.proofs.Common.{◌≡◌, ◌++◌, take, string_bytes}
use Rattle.std.specs.List.{flat_map}
use Rattle.isle_numerics.specs.declared.numeric_type.NumericType.{NumericType}
use Rattle.isle_numerics.specs.Definitions.{type_defs}
use Rattle.isle_writing.specs.Text.{def_texts}
use Rattle.isle_numeric_text.proofs.text.push_types.Given as goal

abbrev pub invariant-loop-ty : goal.invariant-loop-ty
invariant-loop-ty l = string_bytes l.text ≡ string_bytes l.fn.text ++ flat_map (λ (ty : NumericType). def_texts (type_defs ty)) (take l.ty-index l.types)
