-- What typing says of names, fields and constants.
use Rattle.std.specs.Prelude.{◌≤◌, List, [], map, length, IsSome, slice_get}
use Rattle.std.specs.List.{AllByRecursion, IsDistinct}
use Rattle.std.specs.Str.{bytes_eq}
use Rattle.isle_base.specs.declared.ids.TypeId.{TypeId}
use Rattle.isle_core.specs.declared.types.Field.{Field}
use Rattle.isle_core.specs.declared.types.Fields.{Fields}
use Rattle.isle_core.specs.declared.types.Fields.TheVariants as fields
use Rattle.isle_core.specs.declared.types.Variant.{Variant}
use Rattle.isle_core.specs.declared.types.TypeDef.{TypeDef}
use Rattle.isle_core.specs.declared.types.TypeDef.TheVariants as def
use Rattle.isle_core.specs.declared.types.TypeEnv.{TypeEnv}
use Rattle.isle_core.specs.NamesApart.{AreFieldsApart, AreConstantsPlain}
use Rattle.isle_core.specs.PatternType.{AreVariantsApart}
use Rattle.isle_core.specs.Rule.{Environment}

-- the types of fields
abbrev pub field_types : Fields → List TypeId
field_types fields.Unit = []
field_types (fields.Struct named) = map (λ (f : Field). f.ty) named
field_types (fields.Tuple tys) = tys

-- a type of this number is there
abbrev pub IsThere : TypeEnv → TypeId → Type 0
IsThere types ty = IsSome (slice_get types.types ty.0)

-- at most 256 fields, whose types are there
pub record AreFieldsTyped (types : TypeEnv) (fs : Fields) : Type 0 where
  pub few : length (field_types fs) ≤ 256
  pub there : AllByRecursion (IsThere types) (field_types fs)

-- so of the fields of a type
abbrev pub ArePartsTyped : TypeEnv → TypeDef → Type 0
ArePartsTyped types (def.Enum name is_extern is_nodebug variants pos) = AllByRecursion (λ (v : Variant). AreFieldsTyped types v.fields) variants
ArePartsTyped types (def.Struct name is_extern is_nodebug fields pos) = AreFieldsTyped types fields
ArePartsTyped types (def.Builtin ty) = Unit {0}
ArePartsTyped types (def.Primitive name rust pos) = Unit {0}

-- so of all types, and no symbol is there twice
pub record AreTypesTyped (env : TypeEnv) : Type 0 where
  pub types : AllByRecursion (ArePartsTyped env) env.types
  pub symbols : IsDistinct bytes_eq env.syms

-- variants and fields have names of their own, and constants are of types without parts
pub record HasTypedNames (env : Environment) : Type 0 where
  pub variants : AreVariantsApart env
  pub fields : AreFieldsApart env
  pub constants : AreConstantsPlain env
  pub types : AreTypesTyped env.types
