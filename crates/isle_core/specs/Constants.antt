-- The values of written constants, and the types of named ones.
use Rattle.std.specs.Prelude.{ℤ, [], ◌==◌, Option, Some, None, find, option_map, slice_get}
use Rattle.isle_base.specs.declared.ids.Sym.{Sym}
use Rattle.isle_base.specs.declared.ids.TypeId.{TypeId}
use Rattle.isle_core.specs.declared.types.BuiltinType.TheVariants as builtin
use Rattle.isle_core.specs.declared.types.TypeDef.{TypeDef}
use Rattle.isle_core.specs.declared.types.TypeDef.TheVariants as def
use Rattle.isle_core.specs.Value.{Value, Int, Opaque}
use Rattle.isle_core.specs.Rule.{Environment}
use Rattle.isle_core.specs.Terms.{sym_text}

-- a number as a value of a type of this definition: of a primitive type an opaque number under its name in Rust. Other
-- types have no numbers; there it is an opaque number under no name, and of no type
abbrev pub int_of_def : Environment → Option TypeDef → ℤ → Value
int_of_def env (Some (def.Builtin (builtin.Int ty))) n = Int ty n
int_of_def env (Some (def.Primitive name rust pos)) n = Opaque (sym_text env rust) n
int_of_def env (Some (def.Builtin builtin.Bool)) n = Opaque [] n
int_of_def env (Some (def.Enum name is_extern is_nodebug variants pos)) n = Opaque [] n
int_of_def env (Some (def.Struct name is_extern is_nodebug fields pos)) n = Opaque [] n
int_of_def env None n = Opaque [] n

-- the type of a named constant, if it is declared
abbrev pub const_type : Environment → Sym → Option TypeId
const_type env name = option_map (λ (c : Sym × TypeId). c.1) (find (λ (c : Sym × TypeId). c.0.0 == name.0) env.types.consts)

-- a number as a value of a type
abbrev pub int_value : Environment → TypeId → ℤ → Value
int_value env ty n = int_of_def env (slice_get env.types.types ty.0) n
