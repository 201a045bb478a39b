-- Each type of the built language has a value.
use Rattle.std.proofs.Common.{true, Option, Some, None, refl, arith}
use Rattle.std.specs.Prelude.{pos, IsSomeAnd, slice_get}
use Rattle.std.specs.Int.{w8, w16, w32, w64, w128}
use Rattle.std.proofs.lemmas.Int.{fits_signed_from_abs}
use Rattle.isle_base.specs.declared.ids.TypeId.{TypeId}
use Rattle.isle_core.specs.declared.types.IntType.{IntType}
use Rattle.isle_core.specs.declared.types.IntType.TheVariants.{U8, U16, U32, U64, U128, USize, I8, I16, I32, I64, I128, ISize}
use Rattle.isle_core.specs.declared.types.BuiltinType.TheVariants as builtin
use Rattle.isle_core.specs.declared.types.TypeDef.{TypeDef}
use Rattle.isle_core.specs.declared.types.TypeDef.TheVariants as def
use Rattle.isle_core.specs.BuiltinType.{IsBuiltinDef, IsBuiltinType}
use Rattle.isle_core.specs.HasType.{IsReduced, IsOfDef, HasType}
use Rattle.isle_core.specs.Value.{Value, Truth, Int}
use Rattle.isle_core.specs.Rule.{Environment}

-- zero is a number of each integer type
zero_held : (ty : IntType) → IsReduced ty (pos 0)
zero_held U8 = omega arith
zero_held U16 = omega arith
zero_held U32 = omega arith
zero_held U64 = omega arith
zero_held U128 = fits_signed_from_abs w128 (pos 0) (omega arith)
zero_held USize = omega arith
zero_held I8 = fits_signed_from_abs w8 (pos 0) (omega arith)
zero_held I16 = fits_signed_from_abs w16 (pos 0) (omega arith)
zero_held I32 = fits_signed_from_abs w32 (pos 0) (omega arith)
zero_held I64 = fits_signed_from_abs w64 (pos 0) (omega arith)
zero_held I128 = fits_signed_from_abs w128 (pos 0) (omega arith)
zero_held ISize = fits_signed_from_abs w64 (pos 0) (omega arith)

value_of_def : (env : Environment) (o : Option TypeDef) → IsSomeAnd o IsBuiltinDef → (v : Value) × IsSomeAnd o (λ d. IsOfDef env d v)
value_of_def env None h = absurd h
value_of_def env (Some (def.Builtin builtin.Bool)) h = (Truth true, tt)
value_of_def env (Some (def.Builtin (builtin.Int ty))) h = (Int ty (pos 0), (refl, zero_held ty))
value_of_def env (Some (def.Primitive name rust at)) h = absurd h
value_of_def env (Some (def.Enum name is_extern is_nodebug variants at)) h = absurd h
value_of_def env (Some (def.Struct name is_extern is_nodebug fields at)) h = absurd h

-- a builtin type has a value
pub builtin_has_value : (env : Environment) (ty : TypeId) → IsBuiltinType env ty → (v : Value) × HasType env v ty
builtin_has_value env ty h = value_of_def env (slice_get env.types.types ty.0) h
