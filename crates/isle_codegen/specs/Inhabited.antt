-- Types that have values by their definitions.
use Rattle.std.specs.Prelude.{◌≡◌, ℕ, List, true, false, Some, IsSomeAnd, slice_get}
use Rattle.isle_core.specs.declared.TypeId.{TypeId}
use Rattle.isle_core.specs.declared.types.TypeDef.{TypeDef}
use Rattle.isle_core.specs.declared.types.TypeDef.TheVariants as def
use Rattle.isle_core.specs.Form.{Form, form}
use Rattle.isle_core.specs.HasType.{typed_fields}
use Rattle.isle_core.specs.Making.{Making}
use Rattle.isle_core.specs.PatternType.{IsOfMaking}
use Rattle.isle_core.specs.Rule.{Environment}

-- a type that takes truths or numbers, whatever it is made of: a builtin, a primitive or an extern one
abbrev pub TakesPlain : TypeDef → Type 0
TakesPlain (def.Builtin of) = Unit {0}
TakesPlain (def.Primitive name rust pos) = Unit {0}
TakesPlain (def.Enum name true is_nodebug variants pos) = Unit {0}
TakesPlain (def.Struct name true is_nodebug fields pos) = Unit {0}
TakesPlain (def.Enum name false is_nodebug variants pos) = ⊥
TakesPlain (def.Struct name false is_nodebug fields pos) = ⊥

-- such a type is inhabited, and so is an enum with a variant, or a struct, whose fields' types are
pub data IsInhabited (env : Environment) : TypeId → Type 0 where
  of_plain : (ty : TypeId) → IsSomeAnd (slice_get env.types.types ty.0) TakesPlain → IsInhabited env ty
  of_fields : (ty : TypeId) (made : Making) (f : Form) → IsOfMaking ty made → form env made ≡ Some f
      → ((i : ℕ) (field : List ℕ × TypeId) → slice_get (typed_fields env f.fields) i ≡ Some field → IsInhabited env field.1) → IsInhabited env ty
