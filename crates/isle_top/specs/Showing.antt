-- What is shown of a source, beside the answers of a file.
use Rattle.std.specs.Prelude.{ℕ, List, Bool, true, false, Option}
use Rattle.isle_codegen.specs.Causes.{of_texts}
use Rattle.isle_command_line.specs.Request.{Running}
use Rattle.isle_core.specs.declared.files.Files.{Files as FileTexts}
use Rattle.isle_core.specs.declared.options.CodegenOptions.{CodegenOptions}
use Rattle.isle_run.specs.NoLines.{HasNoLines}
use Rattle.isle_run.specs.Trial.{IsTrial}
use Rattle.isle_run.specs.Valid.{CanRun}
use Rattle.isle_run.specs.declared.trials.TrialFail.{TrialFail}
use Rattle.isle_run.specs.declared.trials.TrialFail.TheVariants as fail
use Rattle.isle_trace.specs.Trace.{IsTracedTrial}
use Rattle.isle_values.specs.Written.{Writtens}
use Rattle.isle_top.specs.declared.refusal.Refusal.{Refusal}
use Rattle.isle_top.specs.declared.refusal.Refusal.TheVariants as refusal

-- what is shown: the name that it asks for beside its inputs, and the name of the file of answers, if there is one; which text is shown, of a source and
-- the text of the answers; why none is; and when one can be
pub record Showing : Type 1 where
  pub asked : List ℕ
  pub answers : Option (List ℕ)
  pub shows : FileTexts → (given text : List ℕ) → Type 0
  pub fails : FileTexts → (given : List ℕ) → Refusal → Type 0
  pub can : FileTexts → (given : List ℕ) → Type 0

-- what a run shows, by whether it is traced: the text of the program and all calls, or the calls of impure terms alone
abbrev pub Shows : (trace : Bool) → CodegenOptions → FileTexts → (term : List ℕ) → Writtens → (given text : List ℕ) → Type 0
Shows false = IsTrial
Shows true = IsTracedTrial

-- why a run of a source gives no lines, with the source where its definitions go wrong
abbrev pub of_trial : FileTexts → TrialFail → Refusal
of_trial source (fail.Source e) = refusal.Files (of_texts source e)
of_trial source (fail.Run e) = refusal.Run e

-- a run of a source gives no lines
pub data FailsToShow (r : Running) (source : FileTexts) (given : List ℕ) : Refusal → Type 0 where
  no_lines : (cause : TrialFail) → HasNoLines r.options source r.term r.values given cause → FailsToShow r source given (of_trial source cause)

-- a term is run
abbrev pub running : Running → Showing
running r = record {
  asked = r.term;
  answers = r.answers;
  shows = λ source given text. Shows r.trace r.options source r.term r.values given text;
  fails = λ source given e. FailsToShow r source given e;
  can = λ source given. CanRun r.options source r.term r.values given;
}
