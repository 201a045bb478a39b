-- Which names of types, variants, fields and constants may be emitted.
use Rattle.std.specs.Prelude.{◌≡◌, ℕ, List, [], ◌∷◌, Bool, false, ◌&&◌, map, Some, codes}
use Rattle.std.specs.List.{AllByRecursion, IsDistinct, list_any}
use Rattle.std.specs.Str.{bytes_eq}
use Rattle.isle_core.specs.declared.Sym.{Sym}
use Rattle.isle_core.specs.declared.TypeId.{TypeId}
use Rattle.isle_core.specs.declared.types.Field.{Field}
use Rattle.isle_core.specs.declared.types.Fields.{Fields}
use Rattle.isle_core.specs.declared.types.Fields.TheVariants as fields
use Rattle.isle_core.specs.declared.types.Variant.{Variant}
use Rattle.isle_core.specs.declared.types.TypeDef.{TypeDef}
use Rattle.isle_core.specs.declared.types.TypeDef.TheVariants as def
use Rattle.isle_core.specs.declared.types.TypeEnv.{TypeEnv}
use Rattle.isle_core.specs.Terms.{symbol_text}
use Rattle.isle_simulation.specs.TypeTexts.{def_text}
use Rattle.isle_spelling.specs.Identifier.{IsIdentifier}
use Rattle.isle_spelling.specs.Names.{IsName}

-- ---- words

-- the words of the emitted text that no type may have for a name
abbrev pub type_words : List (List ℕ)
type_words =
    codes "Context" ∷ codes "ContextIter" ∷ codes "IntoContextIter" ∷ codes "Length" ∷ codes "ContextIterWrapper" ∷ codes "ConstructorVec"
    ∷ codes "PhantomData" ∷ codes "Option" ∷ codes "Some" ∷ codes "None" ∷ codes "Default" ∷ codes "Extend" ∷ codes "Iterator"
    ∷ codes "IntoIterator" ∷ codes "From" ∷ codes "Vec" ∷ []

-- those that no constant may have
abbrev pub constant_words : List (List ℕ)
constant_words = codes "ctx" ∷ codes "returns" ∷ codes "Some" ∷ codes "None" ∷ []

-- ---- types

-- the name of a type: an identifier that no local and no parameter has, none of those words, and not C if a term has rules
pub record IsTypeName (has_rules : Bool) (text : List ℕ) : Type 0 where
  pub name : IsName text
  pub free : list_any (bytes_eq text) type_words ≡ false
  pub generic : (has_rules && bytes_eq text (codes "C")) ≡ false

-- the name of a field
abbrev pub IsFieldNamed : TypeEnv → Field → Type 0
IsFieldNamed types f = IsIdentifier (symbol_text types f.name)

-- the names of fields; those of a tuple have none
abbrev pub AreFieldsNamed : TypeEnv → Fields → Type 0
AreFieldsNamed types fields.Unit = Unit {0}
AreFieldsNamed types (fields.Struct named) = AllByRecursion (IsFieldNamed types) named
AreFieldsNamed types (fields.Tuple tys) = Unit {0}

-- the names of a variant and of its fields
abbrev pub IsVariantNamed : TypeEnv → Variant → Type 0
IsVariantNamed types v = IsIdentifier (symbol_text types v.name) × AreFieldsNamed types v.fields

-- the names of a type's variants and fields
abbrev pub ArePartsNamed : TypeEnv → TypeDef → Type 0
ArePartsNamed types (def.Enum name is_extern is_nodebug variants pos) = AllByRecursion (IsVariantNamed types) variants
ArePartsNamed types (def.Struct name is_extern is_nodebug fields pos) = AreFieldsNamed types fields
ArePartsNamed types (def.Builtin ty) = Unit {0}
ArePartsNamed types (def.Primitive name rust pos) = Unit {0}

-- the name of a type, as it is emitted
abbrev pub emitted_name : TypeEnv → TypeDef → List ℕ
emitted_name types d = def_text types (Some d)

-- the names of a type and of its parts
pub record IsLawfulType (has_rules : Bool) (types : TypeEnv) (d : TypeDef) : Type 0 where
  pub name : IsTypeName has_rules (emitted_name types d)
  pub parts : ArePartsNamed types d

-- the emitted names of types, in order; the builtin types come first
abbrev pub emitted_names : TypeEnv → List TypeDef → List (List ℕ)
emitted_names types ds = map (emitted_name types) ds

-- ---- constants

-- the name of a constant: an identifier that no local and no parameter has, and none of those words
pub record IsConstantName (text : List ℕ) : Type 0 where
  pub name : IsName text
  pub free : list_any (bytes_eq text) constant_words ≡ false

-- so of a constant
abbrev pub IsLawfulConstant : TypeEnv → Sym × TypeId → Type 0
IsLawfulConstant types c = IsConstantName (symbol_text types c.0)

-- no type is emitted under the constant's name
abbrev pub IsNoType : TypeEnv → Sym × TypeId → Type 0
IsNoType types c = list_any (bytes_eq (symbol_text types c.0)) (emitted_names types types.types) ≡ false

-- ---- all

-- no two types are emitted under one name, and no constant has that of a type
pub record AreNamesApart (env : TypeEnv) : Type 0 where
  pub types : IsDistinct bytes_eq (emitted_names env env.types)
  pub constants : AllByRecursion (IsNoType env) env.consts

-- all names may be emitted, if a term has rules or none has
pub record AreLawful (has_rules : Bool) (env : TypeEnv) : Type 0 where
  pub types : AllByRecursion (IsLawfulType has_rules env) env.types
  pub constants : AllByRecursion (IsLawfulConstant env) env.consts
  pub apart : AreNamesApart env
