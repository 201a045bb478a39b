-- What names of an environment don't share, so that runs can tell by names what is made and what is constant.
use Rattle.std.specs.Prelude.{◌≡◌, ℕ, List, Some, IsSomeAnd, slice_get}
use Rattle.isle_base.specs.declared.ids.Sym.{Sym}
use Rattle.isle_base.specs.declared.ids.TypeId.{TypeId}
use Rattle.isle_core.specs.declared.types.TypeDef.{TypeDef}
use Rattle.isle_core.specs.declared.types.TypeDef.TheVariants as def
use Rattle.isle_core.specs.Constants.{const_type}
use Rattle.isle_core.specs.Form.{Form, form}
use Rattle.isle_core.specs.HasType.{HasType, typed_fields}
use Rattle.isle_core.specs.Making.{Making, MakesStruct}
use Rattle.isle_core.specs.Meaning.{Meaning}
use Rattle.isle_core.specs.Having.{const_of}
use Rattle.isle_core.specs.PatternType.{AreVariantsApart}
use Rattle.isle_core.specs.Rule.{Environment}
use Rattle.isle_core.specs.Terms.{sym_text}

-- no two fields of a variant or a struct have one name
abbrev pub AreFieldsApart : Environment → Type 0
AreFieldsApart env = (mk : Making) (f : Form) (i j : ℕ) (a b : List ℕ × TypeId) → form env mk ≡ Some f
    → slice_get (typed_fields env f.fields) i ≡ Some a → slice_get (typed_fields env f.fields) j ≡ Some b → a.0 ≡ b.0 → i ≡ j

-- a type that is builtin or primitive
abbrev pub IsPlainDef : TypeDef → Type 0
IsPlainDef (def.Builtin ty) = Unit {0}
IsPlainDef (def.Primitive name rust place) = Unit {0}
IsPlainDef (def.Enum name is_extern is_nodebug variants place) = ⊥
IsPlainDef (def.Struct name is_extern is_nodebug fields place) = ⊥

-- constants are of such types
abbrev pub AreConstantsPlain : Environment → Type 0
AreConstantsPlain env = (name : Sym) (ty : TypeId) → const_type env name ≡ Some ty → IsSomeAnd (slice_get env.types.types ty.0) IsPlainDef

-- no constant has the name of a struct
abbrev pub AreStructsNoConstants : Environment → Type 0
AreStructsNoConstants env = (name : Sym) (ty of : TypeId) (f : Form) → const_type env name ≡ Some ty → form env (MakesStruct of) ≡ Some f → sym_text env name ≡ sym_text env f.ty → ⊥

-- names that are apart
pub record HasNamesApart (env : Environment) : Type 0 where
  pub variants : AreVariantsApart env
  pub fields : AreFieldsApart env
  pub constants : AreConstantsPlain env
  pub structs : AreStructsNoConstants env

-- the name of a constant that is declared of this type
abbrev pub IsNameOf : Environment → TypeId → List ℕ → Type 0
IsNameOf env ty name = (s : Sym) × (const_type env s ≡ Some ty) × (sym_text env s ≡ name)

-- the meaning gives values to names of declared constants alone, and each is of its constant's type
abbrev pub ValuesConstants : Environment → Meaning → Type 0
ValuesConstants env m = (name : List ℕ) (v : _) → const_of m name ≡ Some v → (ty : TypeId) × IsNameOf env ty name × HasType env v ty
