-- What may stand where a type is expected.
use Rattle.std.specs.Prelude.{Bool, true, false, Option, Some, None, slice_get}
use Rattle.std.specs.Option.{option_map_or}
use Rattle.isle_core.specs.declared.TypeId.{TypeId}
use Rattle.isle_core.specs.declared.types.BuiltinType.TheVariants.{Bool as Truths, Int}
use Rattle.isle_core.specs.declared.types.TypeDef.{TypeDef}
use Rattle.isle_core.specs.declared.types.TypeDef.TheVariants.{Builtin, Primitive, Enum, Struct}
use Rattle.isle_core.specs.declared.types.TypeEnv.{TypeEnv}

-- a type of integers
abbrev pub is_integer_def : TypeDef → Bool
is_integer_def (Builtin Truths) = false
is_integer_def (Builtin (Int ty)) = true
is_integer_def (Primitive name rust pos) = true
is_integer_def (Enum name is_extern is_nodebug variants pos) = false
is_integer_def (Struct name is_extern is_nodebug fields pos) = false

-- bool
abbrev pub is_bool_def : TypeDef → Bool
is_bool_def (Builtin Truths) = true
is_bool_def (Builtin (Int ty)) = false
is_bool_def (Primitive name rust pos) = false
is_bool_def (Enum name is_extern is_nodebug variants pos) = false
is_bool_def (Struct name is_extern is_nodebug fields pos) = false

-- an integer may stand where this is expected: if nothing is, it may not
abbrev pub takes_integers : TypeEnv → Option TypeId → Bool
takes_integers types None = false
takes_integers types (Some ty) = option_map_or is_integer_def (slice_get types.types ty.0) false

-- `true` and `false` may stand where this is expected: if nothing is, they may
abbrev pub takes_truths : TypeEnv → Option TypeId → Bool
takes_truths types None = true
takes_truths types (Some ty) = option_map_or is_bool_def (slice_get types.types ty.0) false
