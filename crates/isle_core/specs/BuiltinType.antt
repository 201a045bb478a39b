-- Types that are there before any definition.
use Rattle.std.specs.Prelude.{IsSomeAnd, slice_get}
use Rattle.isle_base.specs.declared.ids.TypeId.{TypeId}
use Rattle.isle_core.specs.declared.types.TypeDef.{TypeDef}
use Rattle.isle_core.specs.declared.types.TypeDef.TheVariants as def
use Rattle.isle_core.specs.Rule.{Environment}

-- a definition of a builtin type
abbrev pub IsBuiltinDef : TypeDef → Type 0
IsBuiltinDef (def.Builtin ty) = Unit {0}
IsBuiltinDef (def.Primitive name rust pos) = ⊥
IsBuiltinDef (def.Enum name is_extern is_nodebug variants pos) = ⊥
IsBuiltinDef (def.Struct name is_extern is_nodebug fields pos) = ⊥

-- a builtin type
abbrev pub IsBuiltinType : Environment → TypeId → Type 0
IsBuiltinType env ty = IsSomeAnd (slice_get env.types.types ty.0) IsBuiltinDef
