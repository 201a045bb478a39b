-- The names in the head of the function of a term.
use Rattle.std.proofs.Common.{List, [], ◌∷◌, map, Option, Some, None, refl}
use Rattle.std.specs.Prelude.{IsSomeAnd, slice_get}
use Rattle.std.specs.List.{AllByRecursion}
use Rattle.isle_core.specs.declared.TypeId.{TypeId}
use Rattle.isle_core.specs.declared.types.BuiltinType.TheVariants as builtin
use Rattle.isle_core.specs.declared.types.IntType.{IntType}
use Rattle.isle_core.specs.declared.types.IntType.TheVariants.{U8, U16, U32, U64, U128, USize, I8, I16, I32, I64, I128, ISize}
use Rattle.isle_core.specs.declared.types.TypeDef.{TypeDef}
use Rattle.isle_core.specs.declared.types.TypeEnv.{TypeEnv}
use Rattle.isle_core.specs.declared.types.TypeDef.TheVariants as def
use Rattle.isle_core.specs.declared.types.Term.{Term}
use Rattle.isle_core.specs.Rule.{Environment}
use Rattle.isle_core.specs.Int.{type_name}
use Rattle.isle_tree.specs.Program.{Body}
use Rattle.isle_spelling.specs.Identifier.{IsIdentifier}
use Rattle.isle_tree.specs.WellFormed.{IsTy, HasNames}
use Rattle.isle_simulation.specs.TermFunction.{function_with}
use Rattle.isle_simulation.specs.TypeTexts.{def_text, type_text, parameter}
use Rattle.isle_core.specs.BuiltinType.{IsBuiltinDef, IsBuiltinType}
use Rattle.isle_simulation.specs.Emitted.{IsEmittable}

int_is_identifier : (ty : IntType) → IsIdentifier (type_name ty)
int_is_identifier U8 = record { begins = refl; word = refl; unused = refl; free = refl }
int_is_identifier U16 = record { begins = refl; word = refl; unused = refl; free = refl }
int_is_identifier U32 = record { begins = refl; word = refl; unused = refl; free = refl }
int_is_identifier U64 = record { begins = refl; word = refl; unused = refl; free = refl }
int_is_identifier U128 = record { begins = refl; word = refl; unused = refl; free = refl }
int_is_identifier USize = record { begins = refl; word = refl; unused = refl; free = refl }
int_is_identifier I8 = record { begins = refl; word = refl; unused = refl; free = refl }
int_is_identifier I16 = record { begins = refl; word = refl; unused = refl; free = refl }
int_is_identifier I32 = record { begins = refl; word = refl; unused = refl; free = refl }
int_is_identifier I64 = record { begins = refl; word = refl; unused = refl; free = refl }
int_is_identifier I128 = record { begins = refl; word = refl; unused = refl; free = refl }
int_is_identifier ISize = record { begins = refl; word = refl; unused = refl; free = refl }

-- the name of a builtin type is an identifier
builtin_is_identifier : (types : TypeEnv) (o : Option TypeDef) → IsSomeAnd o IsBuiltinDef → IsIdentifier (def_text types o)
builtin_is_identifier types None h = absurd h
builtin_is_identifier types (Some (def.Builtin builtin.Bool)) h = record { begins = refl; word = refl; unused = refl; free = refl }
builtin_is_identifier types (Some (def.Builtin (builtin.Int ty))) h = int_is_identifier ty
builtin_is_identifier types (Some (def.Primitive name rust pos)) h = absurd h
builtin_is_identifier types (Some (def.Enum name is_extern is_nodebug variants pos)) h = absurd h
builtin_is_identifier types (Some (def.Struct name is_extern is_nodebug fields pos)) h = absurd h

pub type_is_identifier : (env : Environment) (ty : TypeId) → IsBuiltinType env ty → IsIdentifier (type_text env ty)
type_is_identifier env ty h = builtin_is_identifier env.types (slice_get env.types.types ty.0) h

pub params_are : (env : Environment) (tys : List TypeId) → AllByRecursion (λ ty. IsIdentifier (type_text env ty)) tys → AllByRecursion IsTy (map (parameter env) tys)
params_are env [] h = tt
params_are env (ty ∷ tys) h = (h.0, params_are env tys h.1)

-- the names of the function of a term that may be emitted
pub has_names : (env : Environment) (t : Term) (body : Body) → IsEmittable env t → HasNames (function_with env t body)
has_names env t body h = record { term = h.name; params = params_are env t.arg_tys h.types.1; result = h.types.0 }
