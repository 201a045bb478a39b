-- What compiling files answers, and why.
use Rattle.std.specs.Prelude.{◌≡◌, ℕ, List, length, map, Option, IfSome}
use Rattle.isle_outside.specs.Directory.{Contents, Counts}
use Rattle.isle_core.specs.declared.options.CodegenOptions.{CodegenOptions}
use Rattle.isle_core.specs.declared.errors.Errors.{Errors as ErrorList}
use Rattle.isle_core.specs.declared.files.Files.{Files as FileTexts}
use Rattle.isle_core.specs.declared.read_error.ReadError.TheVariants as read
use Rattle.isle_core.specs.Inputs.{AreRead, Fails, IsTried}
use Rattle.isle_core.specs.Printed.{shown}
use Rattle.isle_ast.specs.Tree.{Def}
use Rattle.isle_checks.specs.declared.overlap.CheckError.{CheckError}
use Rattle.isle_checks.specs.declared.overlap.CheckError.TheVariants as check
use Rattle.isle_codegen.specs.declared.compile_error.CompileError.{CompileError}
use Rattle.isle_codegen.specs.declared.compile_error.CompileError.TheVariants as compile_error
use Rattle.isle_codegen.specs.declared.file_error.FileError.{FileError}
use Rattle.isle_codegen.specs.declared.file_error.FileError.TheVariants as error
use Rattle.isle_codegen.specs.Errors.{IsErrors, AreErrorsOfTexts, AreErrorsOfDefs, HasNameError, IsNameError}
use Rattle.isle_codegen.specs.Source.{Source}
use Rattle.isle_lawful_names.specs.declared.name_error.NameError.{NameError}
use Rattle.isle_codegen.specs.Header.{HasHeader}
use Rattle.isle_codegen.specs.Headline.{HasHeadline}

-- the names of the inputs, as printed
abbrev pub printed : CodegenOptions → List (List ℕ) → List (List ℕ)
printed options names = map (shown options.prefixes) names

-- what a check told
abbrev pub of_check : CheckError → CompileError
of_check (check.Rules errors) = compile_error.Errors errors
of_check check.Memory = compile_error.Memory

-- why definitions over files give no text
abbrev pub IsUncompiled : CompileError → FileTexts → List Def → Type 0
IsUncompiled (compile_error.Errors errors) files defs = AreErrorsOfDefs errors files defs
IsUncompiled (compile_error.Name name) files defs = HasNameError files.file_names defs name
IsUncompiled compile_error.Memory files defs = Unit {0}

-- why the texts of files give no text
abbrev pub IsTextRefusal : CompileError → FileTexts → Type 0
IsTextRefusal (compile_error.Errors errors) files = AreErrorsOfTexts errors files
IsTextRefusal (compile_error.Name name) files = IsNameError files.file_names files.file_texts name
IsTextRefusal compile_error.Memory files = Unit {0}

-- the text is that of the one list of definitions that the files' texts spell
pub record CompilesTo (options : CodegenOptions) (files : FileTexts) (text : List ℕ) : Type 0 where
  pub defs : List Def
  pub source : Source 0 files.file_texts defs
  pub once : (others : List Def) → Source 0 files.file_texts others → others ≡ defs
  pub headline : HasHeadline options files defs text

-- a source is the files of these names: it has the names as printed, and the texts that the directory tells of the files
pub record AreSource (options : CodegenOptions) (names : List (List ℕ)) (files : Option Contents) (source : FileTexts) : Type 0 where
  pub named : source.file_names ≡ printed options names
  pub read : IfSome files (λ fs. AreRead fs names source.file_texts)

-- the text is that of the definitions that the files of these names spell, after the header comment that names them
pub record IsCompiled (options : CodegenOptions) (names : List (List ℕ)) (files : Option Contents) (text : List ℕ) : Type 0 where
  pub source : FileTexts
  pub read : AreSource options names files source
  pub compiles : CompilesTo options source text
  pub header : HasHeader source.file_names text

-- why texts of files with these printed names give no text
abbrev pub IsRefusal : FileError → List (List ℕ) → List (List ℕ) → Type 0
IsRefusal error.Memory names texts = Unit {0}
IsRefusal (error.Errors errors) names texts = IsErrors errors names texts
IsRefusal (error.Io index why) names texts = ⊥
IsRefusal (error.Name name) names texts = IsNameError names texts name

-- why files that were read give no text, if their texts give none: errors are reported with the files
abbrev pub of_texts : FileTexts → CompileError → FileError
of_texts files (compile_error.Errors errors) = error.Errors (record { errors = errors; files = files })
of_texts files (compile_error.Name name) = error.Name name
of_texts files compile_error.Memory = error.Memory

-- all inputs were read, and of their names this is the first that may not be emitted
pub record IsBadlyNamed (e : NameError) (options : CodegenOptions) (files : Option Contents) (names : List (List ℕ)) : Type 0 where
  pub texts : List (List ℕ)
  pub read : IfSome files (λ fs. AreRead fs names texts)
  pub error : IsNameError (printed options names) texts e

-- all inputs were read, and their texts have these errors
pub record HasErrors (e : ErrorList) (options : CodegenOptions) (files : Option Contents) (names : List (List ℕ)) : Type 0 where
  pub texts : List (List ℕ)
  pub read : IfSome files (λ fs. AreRead fs names texts)
  pub errors : IsErrors e (printed options names) texts

-- all names were looked up, and no call of the directory failed
abbrev pub AllTried : List (List ℕ) → Counts → Counts → Type 0
AllTried names before after = IsTried (length names) before after × (after.faults ≡ before.faults)

-- why files give no text; if the directory doesn't tell its files, some texts give none for it
abbrev pub HasCause : FileError → CodegenOptions → Option Contents → List (List ℕ) → Counts → Counts → Type 0
HasCause (error.Io index why) options files names before after = Fails (read.Io index why) files names before after
HasCause (error.Errors errors) options files names before after = AllTried names before after × HasErrors errors options files names
HasCause (error.Name name) options files names before after = AllTried names before after × IsBadlyNamed name options files names
HasCause error.Memory options files names before after = after.faults ≡ before.faults
