-- The names that an emitted text has of its files and its environment, in the order in which they are judged, and which of them may be emitted.
use Rattle.std.specs.Prelude.{ℕ, suc, List, [], ◌∷◌, ◌++◌, map, flat_map, Bool, true, false, if◌then◌else◌, IsTrue, Contains}
use Rattle.isle_core.specs.declared.Sym.{Sym}
use Rattle.isle_core.specs.declared.TypeId.{TypeId}
use Rattle.isle_core.specs.declared.types.Field.{Field}
use Rattle.isle_core.specs.declared.types.Fields.{Fields}
use Rattle.isle_core.specs.declared.types.Fields.TheVariants as fields
use Rattle.isle_core.specs.declared.types.Term.{Term}
use Rattle.isle_core.specs.declared.types.TypeDef.{TypeDef}
use Rattle.isle_core.specs.declared.types.TypeDef.TheVariants as def
use Rattle.isle_core.specs.declared.types.TypeEnv.{TypeEnv}
use Rattle.isle_core.specs.declared.types.Variant.{Variant}
use Rattle.isle_core.specs.Rule.{Environment, Rule}
use Rattle.isle_core.specs.Terms.{symbol_text, sym_text, has_rules}
use Rattle.isle_lawful_names.specs.LawfulNames.{IsTypeName, IsConstantName, emitted_name, emitted_names}
use Rattle.isle_lawful_names.specs.declared.name_error.NameUse.{NameUse}
use Rattle.isle_lawful_names.specs.declared.name_error.NameUse.TheVariants as use_of
use Rattle.isle_lawful_names.specs.Words.{is_file_name, is_term_name}
use Rattle.isle_simulation.specs.TraitFns.{fns_before}
use Rattle.isle_spelling.specs.Identifier.{IsIdentifier}
use Rattle.isle_tree.specs.WellFormed.{fn_names}

-- a name, by what it stands for; a type's and a function's with the names of those before it
pub data Claim : Type 0 where
  OfFile : (name : List ℕ) → Claim
  OfType : (earlier : List (List ℕ)) → (name : List ℕ) → Claim
  OfVariant : (name : List ℕ) → Claim
  OfField : (name : List ℕ) → Claim
  OfFunction : (earlier : List (List ℕ)) → (name : List ℕ) → Claim
  OfTerm : (name : List ℕ) → Claim
  OfConstant : (name : List ℕ) → Claim

-- the name
abbrev pub name_of : Claim → List ℕ
name_of (OfFile name) = name
name_of (OfType earlier name) = name
name_of (OfVariant name) = name
name_of (OfField name) = name
name_of (OfFunction earlier name) = name
name_of (OfTerm name) = name
name_of (OfConstant name) = name

-- what it stands for
abbrev pub usage_of : Claim → NameUse
usage_of (OfFile name) = use_of.File
usage_of (OfType earlier name) = use_of.TypeName
usage_of (OfVariant name) = use_of.Variant
usage_of (OfField name) = use_of.Field
usage_of (OfFunction earlier name) = use_of.Function
usage_of (OfTerm name) = use_of.Term
usage_of (OfConstant name) = use_of.Constant

-- whether there is a rule
abbrev pub is_ruled : List Rule → Bool
is_ruled [] = false
is_ruled (r ∷ rs) = true

-- it may be emitted: a file's name may stand in a comment; a type's is a type's name and no earlier type's; those of variants and fields are
-- identifiers; a function's is one and no earlier function's; the name of a term with rules is of letters, digits and `_`; a constant's is
-- a constant's name and no type's
abbrev pub IsLawfulClaim : Environment → Claim → Type 0
IsLawfulClaim env (OfFile name) = IsTrue (is_file_name name)
IsLawfulClaim env (OfType earlier name) = IsTypeName (is_ruled env.rules) name × (Contains earlier name → ⊥)
IsLawfulClaim env (OfVariant name) = IsIdentifier name
IsLawfulClaim env (OfField name) = IsIdentifier name
IsLawfulClaim env (OfFunction earlier name) = IsIdentifier name × (Contains earlier name → ⊥)
IsLawfulClaim env (OfTerm name) = IsTrue (is_term_name name)
IsLawfulClaim env (OfConstant name) = IsConstantName name × (Contains (emitted_names env.types env.types.types) name → ⊥)

-- ---- files

abbrev pub file_claims : List (List ℕ) → List Claim
file_claims names = map OfFile names

-- ---- types, each followed by its variants and fields

-- the fields of a variant or a struct; those of a tuple have no names
abbrev pub field_claims : TypeEnv → Fields → List Claim
field_claims types fields.Unit = []
field_claims types (fields.Struct named) = map (λ (f : Field). OfField (symbol_text types f.name)) named
field_claims types (fields.Tuple tys) = []

-- a variant and its fields
abbrev pub variant_claims : TypeEnv → Variant → List Claim
variant_claims types v = OfVariant (symbol_text types v.name) ∷ field_claims types v.fields

-- the variants and fields of a type
abbrev pub part_claims : TypeEnv → TypeDef → List Claim
part_claims types (def.Builtin ty) = []
part_claims types (def.Primitive name rust pos) = []
part_claims types (def.Enum name is_extern is_nodebug variants pos) = flat_map (variant_claims types) variants
part_claims types (def.Struct name is_extern is_nodebug fields pos) = field_claims types fields

-- types after those that have these names
abbrev pub type_claims : TypeEnv → (earlier : List (List ℕ)) → List TypeDef → List Claim
type_claims types earlier [] = []
type_claims types earlier (d ∷ ds) = OfType earlier (emitted_name types d) ∷ (part_claims types d ++ type_claims types (earlier ++ emitted_name types d ∷ []) ds)

-- ---- terms

-- the external functions of a term: its extractor's, then its constructor's
abbrev pub functions_of : Environment → Term → List (List ℕ)
functions_of env t = fn_names (fns_before env t [])

-- functions after those that have these names
abbrev pub function_claims : (earlier : List (List ℕ)) → List (List ℕ) → List Claim
function_claims earlier [] = []
function_claims earlier (f ∷ fs) = OfFunction earlier f ∷ function_claims (earlier ++ f ∷ []) fs

-- the name of the term of this number, if it has rules
abbrev pub own_claims : Environment → ℕ → Term → List Claim
own_claims env id t = if has_rules env (record { 0 = id }) then OfTerm (sym_text env t.name) ∷ [] else []

-- terms from this number on, after those whose external functions have these names: of each its functions, then its own name
abbrev pub term_claims : Environment → ℕ → (earlier : List (List ℕ)) → List Term → List Claim
term_claims env id earlier [] = []
term_claims env id earlier (t ∷ ts) = function_claims earlier (functions_of env t) ++ own_claims env id t ++ term_claims env (suc id) (earlier ++ functions_of env t) ts

-- ---- constants

abbrev pub constant_claims : TypeEnv → List (Sym × TypeId) → List Claim
constant_claims types consts = map (λ (c : Sym × TypeId). OfConstant (symbol_text types c.0)) consts

-- ---- all

-- the names of files, then of types, terms and constants
abbrev pub claims : (files : List (List ℕ)) → Environment → List Claim
claims files env = file_claims files ++ type_claims env.types [] env.types.types ++ term_claims env 0 [] env.terms ++ constant_claims env.types env.types.consts
