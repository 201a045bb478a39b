-- What the code that looks for the fault of declarations sees.
use Rattle.std.specs.Prelude.{◌≡◌, ℕ, ◌+◌, ◌≤◌, nat_le, List, [], ◌∷◌, ◌++◌, length, take, Bool, ◌&&◌, ◌||◌, not, if◌then◌else◌, Option, Some, None, is_some, Result, Ok, Err, option_map}
use Rattle.std.specs.List.{list_all}
use denote.Ref.{Bor}
use Rattle.isle_core.specs.declared.errors.Error.{Error}
use Rattle.isle_core.specs.declared.position.Pos.{Pos}
use Rattle.isle_ast.specs.Tree.{Def}
use Rattle.isle_ast.specs.Views.{defs as seen}
use Rattle.isle_declarations.specs.declared.collected.Signature.{Signature as CodeSignature}
use Rattle.isle_declarations.specs.Collected.{signature}
use Rattle.isle_declarations.specs.DeclaredTypes.{made_terms}
use Rattle.isle_declarations.specs.Heads.{terms_of, extern_terms, extractor_terms}
use Rattle.isle_declarations.specs.Signatures.{signature_of, extern_of, extractor_of, signatures, externs, extractors, signature_named}
use Rattle.isle_declarations.specs.Symbols.{index_of, symbols}
use Rattle.isle_declarations.specs.TermViews.{AreTerms}
use Rattle.isle_types.specs.declared.row.Row.{Row}
use Rattle.isle_types.specs.declared.row.Row.TheVariants as row
use Rattle.isle_types.specs.Gathered.{IsBefore, TellsTyping}
use Rattle.isle_terms.specs.declared.converters.Converters.{Converters}
use Rattle.isle_terms.specs.declared.counts.Counts.{Counts}
use Rattle.isle_terms.specs.declared.misfit.Misfit.{Misfit}
use Rattle.isle_terms.specs.declared.misfit.Misfit.TheVariants as misfit
use Rattle.isle_terms.specs.declared.names.Names.{Names}
use Rattle.isle_terms.specs.Context.{Context}
use Rattle.isle_terms.specs.ConverterViews.{AreMet, AreTaken}
use Rattle.isle_terms.specs.TermFault.{term_row, term_fault}
use Rattle.isle_terms.specs.TypeNames.{type_named}
use Rattle.isle_terms.specs.Whole.{whole_of}

-- the row that a misfit is of
abbrev pub misfit_row : Misfit → Row
misfit_row (misfit.DeclaredTwice term) = row.DeclarationRepeats
misfit_row (misfit.Made term) = row.DeclarationRepeats
misfit_row (misfit.TypeMissing ty) = row.TypeMissing
misfit_row (misfit.ManyArguments term) = row.ManyArguments
misfit_row (misfit.MultiAndPartial term) = row.MultiAndPartial
misfit_row (misfit.Undeclared term) = row.TermUndeclared
misfit_row (misfit.SecondConstructor term) = row.SecondOfTerm
misfit_row (misfit.SecondExtractor term) = row.SecondOfTerm
misfit_row (misfit.InfallibleMulti term) = row.InfallibleMulti
misfit_row (misfit.ParameterCount term params args) = row.ParametersMisfit
misfit_row (misfit.ParameterTwice term) = row.ParametersMisfit
misfit_row (misfit.ConverterTypeMissing ty) = row.ConverterMisfit
misfit_row (misfit.SecondConverter given) = row.ConverterMisfit
misfit_row (misfit.ConverterUnfit given) = row.ConverterMisfit
misfit_row (misfit.HeadUndeclared term) = row.HeadMisfit
misfit_row (misfit.HeadExternal term) = row.HeadMisfit

-- what names mean is told by what these definitions declare
pub record AreNames (names : Names) : Type 0 where
  pub before : IsBefore (seen names.declarations.now) names.before.now
  pub terms : AreTerms (seen names.declarations.now) names.terms.now

-- what is found of a term is its declaration, with the number of its name; or it is not declared
abbrev pub IsDeclared : List Def → List ℕ → Option (Bor CodeSignature) → Type 0
IsDeclared defs name None = signature_named (signatures defs) name ≡ None
IsDeclared defs name (Some s) = (signature_named (signatures defs) name ≡ Some (signature s.now)) × (index_of (symbols defs) name ≡ Some s.now.number)

-- a definition is judged among all, after these
abbrev pub here : (all before : List Def) → Context
here all before = record { whole = whole_of all; before = before }

-- a declaration's name is one of these, or that of a term that a type makes
abbrev pub repeated_row : (all : List Def) (earlier : List (List ℕ)) (term : List ℕ) → Option Row
repeated_row all earlier term = if is_some (index_of earlier term) || is_some (index_of (made_terms all) term) then Some row.DeclarationRepeats else None

-- the lowest row that a declaration breaks in itself, which may be both `multi` and `partial`
abbrev pub misdeclared_row : (all : List Def) (is_both : Bool) (args : List (List ℕ)) (ret : List ℕ) → Option Row
misdeclared_row all is_both args ret =
    if not (is_some (type_named all ret) && list_all (λ (n : List ℕ). is_some (type_named all n)) args) then Some row.TypeMissing
    else if not (nat_le (length args) 256) then Some row.ManyArguments
    else if is_both then Some row.MultiAndPartial
    else None

-- one more, if there is something
abbrev pub one_more : {X : Type 0} → Option X → ℕ → ℕ
one_more None n = n
one_more (Some x) n = n + 1

-- the counts after one definition more
abbrev pub counts_after : Def → Counts → Counts
counts_after d c = record { signatures = one_more (signature_of d) c.signatures; externs = one_more (extern_of d) c.externs; extractors = one_more (extractor_of d) c.extractors }

-- the counts are those of what these definitions are
pub record AreCounted (before : List Def) (counts : Counts) : Type 0 where
  pub signatures : counts.signatures ≡ length (signatures before)
  pub externs : counts.externs ≡ length (externs before)
  pub extractors : counts.extractors ≡ length (extractors before)
  pub few : counts.signatures + counts.externs + counts.extractors ≤ length before

-- as many of all names as these counts are those of these definitions
pub record ArePlaced (all before : List Def) (counts : Counts) : Type 0 where
  pub signatures : take counts.signatures (terms_of (signatures all)) ≡ terms_of (signatures before)
  pub externs : take counts.externs (extern_terms (externs all)) ≡ extern_terms (externs before)
  pub extractors : take counts.extractors (extractor_terms (extractors all)) ≡ extractor_terms (extractors before)

-- what was found of a definition, after these: the lowest row that it breaks, or else it is met
pub record IsJudged (all before : List Def) (d : Def) (found : Option Misfit) (met : Converters) : Type 0 where
  pub row : option_map misfit_row found ≡ term_row (here all before) d
  pub after : found ≡ None → AreMet all (before ++ d ∷ []) met

-- what a look at all definitions finds: a misfit with its place, of their fault; or none, and their converters
abbrev pub IsScanned : List Def → Result Converters (Misfit × Pos) → Type 0
IsScanned defs (Ok found) = (term_fault (whole_of defs) ≡ None) × AreTaken defs (Some found)
IsScanned defs (Err found) = term_fault (whole_of defs) ≡ Some (misfit_row found.0, found.1)

-- the error of their fault; or none, and their converters
abbrev pub AreChecked : List Def → Result Converters Error → Type 0
AreChecked defs (Ok found) = (term_fault (whole_of defs) ≡ None) × AreTaken defs (Some found)
AreChecked defs (Err e) = TellsTyping (term_fault (whole_of defs)) (Some e)
