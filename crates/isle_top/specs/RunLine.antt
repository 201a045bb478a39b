-- A line that shows something of a source, beside the answers of a file.
use Rattle.std.specs.Prelude.{◌≡◌, ℕ, List, [], ◌∷◌, ◌++◌, true, Option, Some, None, IfSome, IsSomeAnd}
use Rattle.isle_outside.specs.Directory.{Contents, bytes_of}
use Rattle.isle_outside.specs.Reading.{IsText}
use Rattle.isle_outside.specs.declared.errors.IoCause.{IoCause}
use Rattle.isle_core.specs.Inputs.{Fails}
use Rattle.isle_core.specs.declared.files.Files.{Files as FileTexts}
use Rattle.isle_core.specs.declared.read_error.ReadError.{ReadError}
use Rattle.isle_core.specs.declared.read_error.ReadError.TheVariants as read
use Rattle.isle_codegen.specs.Causes.{AllTried}
use Rattle.isle_codegen.specs.declared.file_error.FileError.TheVariants as file
use Rattle.isle_top.specs.declared.refusal.Refusal.{Refusal}
use Rattle.isle_top.specs.declared.refusal.Refusal.TheVariants as refusal
use Rattle.isle_top.specs.Job.{Around, Job}
use Rattle.isle_top.specs.Showing.{Showing}
use Rattle.isle_top.specs.Sourcing.{Sourcing}

-- a file of answers, if any
abbrev pub answers_names : Option (List ℕ) → List (List ℕ)
answers_names None = []
answers_names (Some name) = name ∷ []

-- the files of a source, and after them the file of answers
abbrev pub run_inputs : (from : Sourcing) (answers : Option (List ℕ)) → List (List ℕ)
run_inputs from answers = from.inputs ++ answers_names answers

-- the text of the file of answers; without such a file it is empty
abbrev pub IsAnswersText : Option Contents → Option (List ℕ) → List ℕ → Type 0
IsAnswersText files None text = text ≡ []
IsAnswersText files (Some name) text = IfSome files (λ fs. IsText text (bytes_of fs name))

-- the source, and the text of the answers
pub record AreInputs (from : Sourcing) (answers : Option (List ℕ)) (files : Option Contents) (source : FileTexts) (given : List ℕ) : Type 0 where
  pub read : from.is_source files source
  pub answered : IsAnswersText files answers given

-- the text is what is shown of this source, under the answers of the file
pub record GivesLines (from : Sourcing) (shown : Showing) (files : Option Contents) (text : List ℕ) : Type 0 where
  pub source : FileTexts
  pub given : List ℕ
  pub inputs : AreInputs from shown.answers files source given
  pub shows : shown.shows source given text

-- the source can be had, and the files hold it and answers under which something can be shown
pub record IsValidRun (from : Sourcing) (shown : Showing) (files : Contents) : Type 0 where
  pub ready : from.ready (Some files)
  pub source : FileTexts
  pub given : List ℕ
  pub inputs : AreInputs from shown.answers (Some files) source given
  pub can : shown.can source given

-- an input that is not read
abbrev pub of_read : ReadError → Refusal
of_read (read.Io index why) = refusal.Files (file.Io index why)
of_read read.Memory = refusal.Files file.Memory

-- why nothing is shown: the source fails before one of its files is read; or an input was not read, the first that is not; or all were, and this is why nothing
-- is shown of them; or memory ran out
pub data FailsToRun (from : Sourcing) (shown : Showing) (around : Around) : Refusal → Type 0 where
  early : (e : Refusal) → from.early e around → FailsToRun from shown around e
  unread : (index : ℕ) (why : IoCause) → from.ready around.files → Fails (read.Io index why) around.files (run_inputs from shown.answers) around.before around.after → FailsToRun from shown around (refusal.Files (file.Io index why))
  unshown : (source : FileTexts) (given : List ℕ) (e : Refusal) → AreInputs from shown.answers around.files source given → AllTried (run_inputs from shown.answers) around.before around.after
      → shown.fails source given e → FailsToRun from shown around e
  memory : around.after.faults ≡ around.before.faults → FailsToRun from shown around (refusal.Files file.Memory)

-- something of a source is shown
abbrev pub run_job : Sourcing → Showing → Job
run_job from shown = record {
  reads = true;
  inputs = run_inputs from shown.answers;
  asked = shown.asked;
  unit = from.unit;
  valid = λ files. IsSomeAnd files (IsValidRun from shown);
  gives = GivesLines from shown;
  fails = λ e around. FailsToRun from shown around e;
}
