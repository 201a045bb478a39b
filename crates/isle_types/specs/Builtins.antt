-- The types that are there before any definition.
use Rattle.std.specs.Prelude.{ℕ, List, [], ◌∷◌, Option, option_map, codes}
use Rattle.isle_core.specs.declared.TypeId.{TypeId}
use Rattle.isle_core.specs.declared.types.IntType.TheVariants.{U8, U16, U32, U64, U128, USize, I8, I16, I32, I64, I128, ISize}
use Rattle.isle_core.specs.declared.types.BuiltinType.TheVariants.{Bool, Int}
use Rattle.isle_core.specs.declared.types.TypeDef.{TypeDef}
use Rattle.isle_core.specs.declared.types.TypeDef.TheVariants.{Builtin}
use Rattle.isle_declarations.specs.Symbols.{index_of}

-- the types, by their numbers
abbrev pub builtins : List TypeDef
builtins =
    Builtin Bool ∷ Builtin (Int U8) ∷ Builtin (Int U16) ∷ Builtin (Int U32) ∷ Builtin (Int U64) ∷ Builtin (Int U128) ∷ Builtin (Int USize)
    ∷ Builtin (Int I8) ∷ Builtin (Int I16) ∷ Builtin (Int I32) ∷ Builtin (Int I64) ∷ Builtin (Int I128) ∷ Builtin (Int ISize) ∷ []

-- their names, by their numbers
abbrev pub builtin_names : List (List ℕ)
builtin_names =
    codes "bool" ∷ codes "u8" ∷ codes "u16" ∷ codes "u32" ∷ codes "u64" ∷ codes "u128" ∷ codes "usize"
    ∷ codes "i8" ∷ codes "i16" ∷ codes "i32" ∷ codes "i64" ∷ codes "i128" ∷ codes "isize" ∷ []

-- the type of a number
abbrev pub type_id : ℕ → TypeId
type_id n = record { 0 = n }

-- the builtin type of a name
abbrev pub builtin_named : List ℕ → Option TypeId
builtin_named name = option_map type_id (index_of builtin_names name)
