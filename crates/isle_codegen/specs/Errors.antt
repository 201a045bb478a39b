-- The errors of definitions, and of the texts that spell them.
use Rattle.std.specs.Prelude.{◌≡◌, ℕ, List, [], ◌∷◌, All, Some}
use Rattle.isle_sema.specs.Typing.{Typed, fault}
use Rattle.isle_core.specs.declared.errors.Error.{Error}
use Rattle.isle_core.specs.declared.errors.Error.TheVariants as error
use Rattle.isle_core.specs.declared.position.Pos.{Pos}
use Rattle.isle_core.specs.declared.errors.Errors.{Errors as ErrorList}
use Rattle.isle_core.specs.declared.files.Files.{Files}
use Rattle.isle_core.specs.ErrorLines.{IsPlaced}
use Rattle.isle_core.specs.Rule.{Environment}
use Rattle.isle_ast.specs.Tree.{Def}
use Rattle.isle_types.specs.Gathered.{TellsTyping}
use Rattle.isle_types.specs.Single.{single}
use Rattle.isle_checks.specs.CheckList.{IsCheckList, IsClean}
use Rattle.isle_codegen.specs.declared.compile_error.CompileError.{CompileError}
use Rattle.isle_codegen.specs.declared.compile_error.CompileError.TheVariants as compile_error
use Rattle.isle_lawful_names.specs.declared.name_error.NameError.{NameError}
use Rattle.isle_lawful_names.specs.NameFault.{IsNameFault}
use Rattle.isle_codegen.specs.Source.{Source, GoesWrong}
use Rattle.isle_checks.specs.RuleErrors.{IsRecursionOf}

-- the definitions give an environment, and these are the errors of its rules, of which there are some
pub record HasCheckErrors (defs : List Def) (errors : List Error) : Type 0 where
  pub env : Environment
  pub typed : Typed defs env
  pub list : IsCheckList env errors
  pub some : errors ≡ [] → ⊥

-- errors have their places in the files
abbrev pub ArePlacedIn : Files → List Error → Type 0
ArePlacedIn files errors = All (IsPlaced files) errors

-- errors have their places in the files that they are told with
abbrev pub HavePlaces : ErrorList → Type 0
HavePlaces e = ArePlacedIn e.files e.errors

-- the definitions give an environment with whose rules nothing is wrong, and these are the errors of its terms that use themselves and are
-- not marked so, of which there are some
pub record HasRecursionErrors (defs : List Def) (errors : List Error) : Type 0 where
  pub env : Environment
  pub typed : Typed defs env
  pub clean : IsClean env
  pub list : IsRecursionOf env errors
  pub some : errors ≡ [] → ⊥

-- the definitions give an environment with whose rules nothing is wrong and whose terms that use themselves are marked so, and of its names
-- and those of the files this is the first that may not be emitted
pub record HasNameError (names : List (List ℕ)) (defs : List Def) (e : NameError) : Type 0 where
  pub env : Environment
  pub typed : Typed defs env
  pub clean : IsClean env
  pub marked : IsRecursionOf env []
  pub first : IsNameFault names env e

-- the texts of files with these printed names spell definitions, and no others, that have this error
pub record IsNameError (names texts : List (List ℕ)) (e : NameError) : Type 0 where
  pub defs : List Def
  pub source : Source 0 texts defs
  pub once : (others : List Def) → Source 0 texts others → others ≡ defs
  pub error : HasNameError names defs e

-- the one error of the grammar, at this one place
pub record IsParseError (pos : Pos) (errors : List Error) : Type 0 where
  pub words : List ℕ
  pub one : errors ≡ error.ParseError words (single pos) ∷ []

-- the definitions have a fault, which the one error reports
pub record HasTypeError (defs : List Def) (errors : List Error) : Type 0 where
  pub error : Error
  pub told : TellsTyping (fault defs) (Some error)
  pub one : errors ≡ error ∷ []

-- why definitions have these errors: of typing; or else of rules; or else of terms that use themselves
pub data HaveDefErrors (defs : List Def) (errors : List Error) : Type 0 where
  of_types : HasTypeError defs errors → HaveDefErrors defs errors
  of_rules : HasCheckErrors defs errors → HaveDefErrors defs errors
  of_recursion : HasRecursionErrors defs errors → HaveDefErrors defs errors

-- why texts have these errors: the first text that goes wrong does so at the place of the
-- one error; or they spell definitions, and no others, that have them
pub data HaveErrors (texts : List (List ℕ)) (errors : List Error) : Type 0 where
  of_parsing : (pos : Pos) → GoesWrong 0 texts pos → IsParseError pos errors → HaveErrors texts errors
  of_defs : (defs : List Def) → Source 0 texts defs → ((others : List Def) → Source 0 texts others → others ≡ defs) → HaveDefErrors defs errors → HaveErrors texts errors

-- the errors of the texts of files
pub record AreErrorsOfTexts (errors : List Error) (files : Files) : Type 0 where
  pub placed : ArePlacedIn files errors
  pub cause : HaveErrors files.file_texts errors

-- the errors of definitions over files
pub record AreErrorsOfDefs (errors : List Error) (files : Files) (defs : List Def) : Type 0 where
  pub placed : ArePlacedIn files errors
  pub cause : HaveDefErrors defs errors

-- the errors of texts of files with these printed names, reported with these files
pub record IsErrors (e : ErrorList) (names texts : List (List ℕ)) : Type 0 where
  pub given : e.files ≡ record { file_names = names; file_texts = texts }
  pub errors : AreErrorsOfTexts e.errors (record { file_names = names; file_texts = texts })

-- want of memory, or the error of the grammar at this place
abbrev pub TellsParseError : CompileError → Pos → Type 0
TellsParseError compile_error.Memory pos = Unit {0}
TellsParseError (compile_error.Errors errors) pos = IsParseError pos errors
TellsParseError (compile_error.Name name) pos = ⊥
