-- What the code that looks at types and constants sees.
use Rattle.std.specs.Prelude.{◌≡◌, ℕ, Bool, false, List, [], ◌∷◌, ◌++◌, ◌||◌, not, length, slice_index_or, Option, Some, None, Result, Ok, Err, map, option_map, if◌then◌else◌}
use Rattle.std.specs.List.{list_any}
use Rattle.isle_core.specs.declared.position.Pos.{Pos}
use Rattle.isle_core.specs.declared.errors.Error.{Error}
use Rattle.isle_core.specs.declared.errors.Error.TheVariants as error
use Rattle.isle_ast.specs.Tree.{Def}
use Rattle.isle_types.specs.declared.known_types.KnownTypes.{KnownTypes}
use Rattle.isle_ast.specs.Views.{defs as seen}
use Rattle.isle_types.specs.declared.before.Before.{Before}
use Rattle.isle_types.specs.declared.type_environment.Names.{Names}
use Rattle.isle_types.specs.declared.misfit.Misfit.{Misfit}
use Rattle.isle_types.specs.declared.misfit.Misfit.TheVariants as misfit
use Rattle.isle_types.specs.declared.row.Row.{Row}
use Rattle.isle_types.specs.declared.row.Row.TheVariants as row
use Rattle.isle_types.specs.Row.{number}
use Rattle.isle_types.specs.Single.{single}
use Rattle.isle_types.specs.Fault.{type_row, type_fault}
use Rattle.isle_types.specs.Bodies.{any_fields, variants_repeat, fields_repeat, field_types, are_many}
use Rattle.isle_ast.specs.declared.tree.AstBody.{AstBody}
use Rattle.isle_ast.specs.declared.tree.AstFields.{AstFields}
use Rattle.isle_declarations.specs.Symbols.{index_of}
use Rattle.isle_declarations.specs.DeclaredTypes.{Constant, constants, made_terms}
use Rattle.isle_types.specs.TypeNames.{type_names, declared_as, is_primitive, is_type}

-- whether the type of a name is primitive, if it was gathered
abbrev pub primitive_at : KnownTypes → List ℕ → Option Bool
primitive_at known name = option_map (λ place. slice_index_or known.primitive.items place false) (index_of known.names name)

-- of each name the first type was found, and as many names were gathered as types
pub record FindsFirsts (defs : List Def) (known : KnownTypes) : Type 0 where
  pub finds : (name : List ℕ) → primitive_at known name ≡ option_map is_primitive (declared_as defs name)
  pub long : length known.primitive.items ≡ length known.names

-- the first type of each name was gathered
unfoldable pub AreKnown : List Def → KnownTypes → Type 0
AreKnown defs known = FindsFirsts defs known

-- what these definitions declare: types and constants by their names, and the terms that types make
pub record IsBefore (defs : List Def) (before : Before) : Type 0 where
  pub types : before.types ≡ type_names defs
  pub made : before.made ≡ made_terms defs
  pub constants : before.constants ≡ map (λ (c : Constant). c.name) (constants defs)

-- the row that a misfit is of
abbrev pub misfit_row : Misfit → Row
misfit_row (misfit.TypeTwice name) = row.TypeRepeats
misfit_row (misfit.VariantTwice name) = row.FieldRepeats
misfit_row (misfit.FieldTwice name) = row.FieldRepeats
misfit_row (misfit.TypeMissing name) = row.FieldTypeMissing
misfit_row (misfit.ManyFields name) = row.ManyFields
misfit_row (misfit.TermTwice name) = row.MadeTermRepeats
misfit_row (misfit.ConstantTwice name) = row.ConstantMisfit
misfit_row (misfit.NotScalar name ty) = row.ConstantMisfit

-- the lowest row that is broken by what a type is declared as
abbrev pub body_row : (all : List Def) → AstBody → Option Row
body_row all body =
    if variants_repeat body || any_fields fields_repeat body then Some row.FieldRepeats
    else if any_fields (λ (fields : AstFields). list_any (λ (name : List ℕ). not (is_type all name)) (field_types fields)) body then Some row.FieldTypeMissing
    else if any_fields are_many body then Some row.ManyFields
    else None

-- what was found of a definition, after these: the lowest row that it breaks, or else it is met
pub record IsJudged (all before : List Def) (d : Def) (found : Option Misfit) (met : Before) : Type 0 where
  pub row : option_map misfit_row found ≡ type_row all before d
  pub after : found ≡ None → IsBefore (before ++ d ∷ []) met

-- an error of typing that tells this fault: of its row, at the one place of its definition
pub record TellsFault (fault : Row × Pos) (e : Error) : Type 0 where
  pub words : List ℕ
  pub is : e ≡ error.TypeError (number fault.0) words (single fault.1)

-- an error if there is a fault, which it tells, and none if there is none
abbrev pub TellsTyping : Option (Row × Pos) → Option Error → Type 0
TellsTyping None None = Unit {0}
TellsTyping None (Some e) = ⊥
TellsTyping (Some fault) None = ⊥
TellsTyping (Some fault) (Some e) = TellsFault fault e

-- what a look at all definitions finds: a misfit with its place, of their fault; or none, and what they declare
abbrev pub IsScanned : List Def → Result Before (Misfit × Pos) → Type 0
IsScanned defs (Ok before) = (type_fault defs ≡ None) × IsBefore defs before
IsScanned defs (Err found) = type_fault defs ≡ Some (misfit_row found.0, found.1)

-- the error of their fault; or none, and what they declare
abbrev pub AreChecked : List Def → Result Before Error → Type 0
AreChecked defs (Ok before) = (type_fault defs ≡ None) × IsBefore defs before
AreChecked defs (Err e) = TellsTyping (type_fault defs) (Some e)

-- what was declared is what these definitions declare
abbrev pub AreNames : Names → Type 0
AreNames names = IsBefore (seen names.declarations.now) names.before.now
