-- How types are emitted: their names, and whether values of them stand behind references.
use Rattle.std.specs.Prelude.{List, [], ℕ, Bool, true, false, Option, Some, None, codes, slice_get}
use Rattle.isle_core.specs.declared.TypeId.{TypeId}
use Rattle.isle_core.specs.declared.types.BuiltinType.TheVariants as builtin
use Rattle.isle_core.specs.declared.types.TypeDef.{TypeDef}
use Rattle.isle_core.specs.declared.types.TypeEnv.{TypeEnv}
use Rattle.isle_core.specs.declared.types.TypeDef.TheVariants as def
use Rattle.isle_core.specs.Terms.{symbol_text}
use Rattle.isle_core.specs.Rule.{Environment}
use Rattle.isle_tree.specs.declared.tree.Ty.{Ty}
use Rattle.isle_core.specs.Int.{type_name}

-- the name of a type as it is emitted: of a primitive one the Rust name
abbrev pub def_text : TypeEnv → Option TypeDef → List ℕ
def_text types (Some (def.Builtin builtin.Bool)) = codes "bool"
def_text types (Some (def.Builtin (builtin.Int ty))) = type_name ty
def_text types (Some (def.Primitive name rust pos)) = symbol_text types rust
def_text types (Some (def.Enum name is_extern is_nodebug variants pos)) = symbol_text types name
def_text types (Some (def.Struct name is_extern is_nodebug fields pos)) = symbol_text types name
def_text types None = []

-- the name of the type of this number
abbrev pub type_text : Environment → TypeId → List ℕ
type_text env ty = def_text env.types (slice_get env.types.types ty.0)

-- whether a parameter of the type stands behind a reference: enums and structs do
abbrev pub is_by_ref : Option TypeDef → Bool
is_by_ref (Some (def.Builtin of)) = false
is_by_ref (Some (def.Primitive name rust pos)) = false
is_by_ref (Some (def.Enum name is_extern is_nodebug variants pos)) = true
is_by_ref (Some (def.Struct name is_extern is_nodebug fields pos)) = true
is_by_ref None = false

-- the type of a parameter
abbrev pub parameter : Environment → TypeId → Ty
parameter env ty = record { by_ref = is_by_ref (slice_get env.types.types ty.0); name = type_text env ty }
