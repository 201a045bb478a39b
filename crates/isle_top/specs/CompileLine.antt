-- A line that compiles a source: files that are named, or those of a unit.
use Rattle.std.specs.Prelude.{ℕ, List, [], true, Option, Some, IsSomeAnd}
use Rattle.isle_codegen.specs.Causes.{AllTried, CompilesTo}
use Rattle.isle_codegen.specs.Errors.{IsErrors, IsNameError}
use Rattle.isle_codegen.specs.Header.{HasHeader}
use Rattle.isle_codegen.specs.LawfulEnvironment.{AreAccepted}
use Rattle.isle_codegen.specs.declared.file_error.FileError.TheVariants as file
use Rattle.isle_core.specs.declared.errors.Errors.{Errors}
use Rattle.isle_core.specs.declared.files.Files.{Files as FileTexts}
use Rattle.isle_core.specs.declared.options.CodegenOptions.{CodegenOptions}
use Rattle.isle_lawful_names.specs.declared.name_error.NameError.{NameError}
use Rattle.isle_outside.specs.Directory.{Contents}
use Rattle.isle_top.specs.declared.refusal.Refusal.{Refusal}
use Rattle.isle_top.specs.declared.refusal.Refusal.TheVariants as refusal
use Rattle.isle_top.specs.Inputs.{FailsToHave}
use Rattle.isle_top.specs.Job.{Around, Job}
use Rattle.isle_top.specs.Sourcing.{Sourcing}

-- the text is that of the source's definitions, after the header comment that names its files
pub record IsTextOfSource (from : Sourcing) (options : CodegenOptions) (files : Option Contents) (text : List ℕ) : Type 0 where
  pub source : FileTexts
  pub is_source : from.is_source files source
  pub compiles : CompilesTo options source text
  pub header : HasHeader source.file_names text

-- the files hold the source, whose texts are those of definitions that have a lawful environment under the names as printed
pub record HoldAccepted (from : Sourcing) (files : Contents) : Type 0 where
  pub source : FileTexts
  pub is_source : from.is_source (Some files) source
  pub accepted : AreAccepted source.file_names source.file_texts

-- all files of a source were read, and this is so of their printed names and texts
pub record IsRead (from : Sourcing) (around : Around) (P : (names texts : List (List ℕ)) → Type 0) : Type 0 where
  pub source : FileTexts
  pub is_source : from.is_source around.files source
  pub tried : AllTried from.inputs around.before around.after
  pub holds : P source.file_names source.file_texts

-- why a source gives no text: its files aren't had; or all were read, and their definitions have these errors, or this is the first name that may not be
-- emitted
pub data FailsToCompile (from : Sourcing) (around : Around) : Refusal → Type 0 where
  not_had : (e : Refusal) → FailsToHave from around e → FailsToCompile from around e
  wrong : (e : Errors) → IsRead from around (IsErrors e) → FailsToCompile from around (refusal.Files (file.Errors e))
  misnamed : (e : NameError) → IsRead from around (λ names texts. IsNameError names texts e) → FailsToCompile from around (refusal.Files (file.Name e))

-- a source is compiled
abbrev pub compile_job : Sourcing → CodegenOptions → Job
compile_job from options = record {
  reads = true;
  inputs = from.inputs;
  asked = [];
  unit = from.unit;
  valid = λ files. IsSomeAnd files (HoldAccepted from);
  gives = IsTextOfSource from options;
  fails = λ e around. FailsToCompile from around e;
}
