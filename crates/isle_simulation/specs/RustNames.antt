-- Names of types, variants, fields and constants that may be emitted.
use Rattle.std.specs.Prelude.{◌≡◌, ℕ, List, Option, Some, None}
use Rattle.std.specs.List.{AllByRecursion}
use Rattle.isle_core.specs.declared.Sym.{Sym}
use Rattle.isle_core.specs.declared.TypeId.{TypeId}
use Rattle.isle_core.specs.Constants.{const_type}
use Rattle.isle_core.specs.Form.{Form, form}
use Rattle.isle_core.specs.HasType.{typed_fields}
use Rattle.isle_core.specs.Making.{Making}
use Rattle.isle_core.specs.NamesApart.{HasNamesApart}
use Rattle.isle_core.specs.Rule.{Environment}
use Rattle.isle_core.specs.Terms.{sym_text}
use Rattle.isle_spelling.specs.Identifier.{IsIdentifier}
use Rattle.isle_spelling.specs.Names.{IsName, IsFieldName}

-- the name of a variant, if it is one
abbrev pub IsVariantName : Environment → Option Sym → Type 0
IsVariantName env (Some variant) = IsIdentifier (sym_text env variant)
IsVariantName env None = Unit {0}

-- the names of a form: of its type, which may stand for a unit struct, of its variant and of its fields
pub record IsRustForm (env : Environment) (f : Form) : Type 0 where
  pub ty : IsName (sym_text env f.ty)
  pub variant : IsVariantName env f.variant
  pub fields : AllByRecursion (λ (field : List ℕ × TypeId). IsFieldName field.0) (typed_fields env f.fields)

-- constants of one name are of one type
abbrev pub AreTextsApart : Environment → Type 0
AreTextsApart env = (a b : Sym) (ty of : TypeId) → const_type env a ≡ Some ty → const_type env b ≡ Some of → sym_text env a ≡ sym_text env b → ty ≡ of

-- so of all forms and constants of an environment, whose names are apart
pub record HasRustNames (env : Environment) : Type 0 where
  pub forms : (mk : Making) (f : Form) → form env mk ≡ Some f → IsRustForm env f
  pub constants : (name : Sym) (ty : TypeId) → const_type env name ≡ Some ty → IsName (sym_text env name)
  pub apart : HasNamesApart env
  pub texts : AreTextsApart env
