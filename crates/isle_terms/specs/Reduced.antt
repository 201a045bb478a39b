-- Integers as the values of their type.
use Rattle.std.specs.Prelude.{ℤ, Option, Some, None, option_map, slice_get}
use Rattle.std.specs.Int.{w128, cast_signed}
use Rattle.isle_core.specs.declared.TypeId.{TypeId}
use Rattle.isle_core.specs.declared.types.IntType.{IntType}
use Rattle.isle_core.specs.declared.types.IntType.TheVariants.{U8, U16, U32, U64, U128, USize, I8, I16, I32, I64, I128, ISize}
use Rattle.isle_core.specs.declared.types.BuiltinType.TheVariants.{Bool as Truths, Int}
use Rattle.isle_core.specs.declared.types.TypeDef.{TypeDef}
use Rattle.isle_core.specs.declared.types.TypeDef.TheVariants.{Builtin, Primitive, Enum, Struct}
use Rattle.isle_core.specs.declared.types.TypeEnv.{TypeEnv}
use Rattle.isle_core.specs.Int.{residue, wrapped}

-- the number of the type that z wraps to, u128 as its 128 signed bits
abbrev pub reduced : IntType → ℤ → ℤ
reduced U8 z = wrapped U8 z
reduced U16 z = wrapped U16 z
reduced U32 z = wrapped U32 z
reduced U64 z = wrapped U64 z
reduced U128 z = cast_signed w128 (residue w128 z)
reduced USize z = wrapped USize z
reduced I8 z = wrapped I8 z
reduced I16 z = wrapped I16 z
reduced I32 z = wrapped I32 z
reduced I64 z = wrapped I64 z
reduced I128 z = wrapped I128 z
reduced ISize z = wrapped ISize z

-- an integer as a type of this definition has it: a primitive type has all 128 signed bits, and only integer types have any
abbrev pub integer_by : Option TypeDef → ℤ → Option ℤ
integer_by None z = None
integer_by (Some (Builtin Truths)) z = None
integer_by (Some (Builtin (Int ty))) z = Some (reduced ty z)
integer_by (Some (Primitive name rust pos)) z = Some (reduced I128 z)
integer_by (Some (Enum name is_extern is_nodebug variants pos)) z = None
integer_by (Some (Struct name is_extern is_nodebug fields pos)) z = None

-- an integer with its type, where this type is expected
abbrev pub typed_integer : TypeEnv → Option TypeId → ℤ → Option (TypeId × ℤ)
typed_integer types None z = None
typed_integer types (Some ty) z = option_map (λ (n : ℤ). (ty, n)) (integer_by (slice_get types.types ty.0) z)
