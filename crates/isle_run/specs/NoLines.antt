-- Why a run of a compiled term gives no lines.
use Rattle.std.specs.Prelude.{◌≡◌, ℕ, List, length, true}
use Rattle.isle_core.specs.declared.options.CodegenOptions.{CodegenOptions}
use Rattle.isle_core.specs.declared.files.Files.{Files}
use Rattle.isle_core.specs.Meaning.{Meaning}
use Rattle.isle_core.specs.Rule.{Environment}
use Rattle.isle_values.specs.Written.{Writtens}
use Rattle.isle_answers.specs.Form.{Form}
use Rattle.isle_answers.specs.Places.{IsFault}
use Rattle.isle_answers.specs.Spelling.{SpellsForms}
use Rattle.isle_run_inputs.specs.AnswersAt.{answers_at}
use Rattle.isle_run_inputs.specs.Places.{place_at}
use Rattle.isle_tree.specs.Program.{Program}
use Rattle.isle_interpreter.specs.Judged.{Takes, Runs}
use Rattle.isle_interpreter.specs.Refusals.{IsRefused}
use Rattle.isle_interpreter.specs.declared.run_error.RunError.TheVariants as error
use Rattle.isle_codegen.specs.declared.compile_error.CompileError.{CompileError}
use Rattle.isle_codegen.specs.declared.compile_error.CompileError.TheVariants as compiling
use Rattle.isle_codegen.specs.Causes.{IsTextRefusal}
use Rattle.isle_codegen.specs.Checked.{IsChecked}
use Rattle.isle_run.specs.declared.run_fail.RunFail.{RunFail}
use Rattle.isle_run.specs.declared.run_fail.RunFail.TheVariants as run
use Rattle.isle_run.specs.declared.trials.TrialFail.{TrialFail}
use Rattle.isle_run.specs.declared.trials.TrialFail.TheVariants as fail
use Rattle.isle_run.specs.Attempt.{Attempt}
use Rattle.isle_run.specs.LeftOut.{leave_out}
use Rattle.isle_run.specs.Conforming.{Conforms}
use Rattle.isle_run.specs.Trial.{args_given}

-- why a program that conforms to the source isn't run, in the order in which it is asked: no function has the term, or
-- takes the arguments, whatever the answers; the text of the answers goes wrong at this place; a form is wrong, or missing;
-- or a constant of the source that stands in the function has none
pub data IsRunRefused (a : Attempt) (text : List ℕ) : RunFail → Type 0 where
  no_term : (m : Meaning) → IsRefused a.program a.term a.args m error.NoTerm → IsRunRefused a text run.NoTerm
  arg_count : (m : Meaning) → IsRefused a.program a.term a.args m error.ArgCount → IsRunRefused a text run.ArgCount
  arg_type : (m : Meaning) (i : ℕ) → IsRefused a.program a.term a.args m (error.ArgType i) → IsRunRefused a text (run.ArgType i)
  fault : (at : ℕ) → Takes a.program a.term a.args → IsFault text at → IsRunRefused a text (run.BadAnswers at)
  wrong : (forms : List Form) (i : ℕ) → SpellsForms text forms → IsRefused a.program a.term a.args (answers_at a.env forms) (error.BadAnswers i)
      → IsRunRefused a text (run.BadAnswers (place_at (length text) forms i))
  left_out : (forms : List Form) → SpellsForms text forms → Runs a.program a.term a.args (answers_at a.env forms) → leave_out a (answers_at a.env forms) ≡ true
      → IsRunRefused a text (run.BadAnswers (length text))

-- the source was checked, and a program that conforms to it isn't run
pub record IsSourceRefused (options : CodegenOptions) (files : Files) (term : List ℕ) (ws : Writtens) (text : List ℕ) (e : RunFail) : Type 0 where
  pub env : Environment
  pub checked : IsChecked files env
  pub program : Program
  pub conforms : Conforms options files env program
  pub refused : IsRunRefused (record { program = program; env = env; term = term; args = args_given env term ws }) text e

-- why the term isn't run: a program that conforms to the source doesn't run it; or memory ran out
pub data IsNotRun (options : CodegenOptions) (files : Files) (term : List ℕ) (ws : Writtens) (text : List ℕ) : RunFail → Type 0 where
  refused : (e : RunFail) → IsSourceRefused options files term ws text e → IsNotRun options files term ws text e
  memory : IsNotRun options files term ws text run.Memory

-- why there are no lines: the source gives no program; or the term isn't run
abbrev pub HasNoLines : CodegenOptions → Files → (term : List ℕ) → Writtens → (text : List ℕ) → TrialFail → Type 0
HasNoLines options files term ws text (fail.Source e) = IsTextRefusal e files
HasNoLines options files term ws text (fail.Run e) = IsNotRun options files term ws text e

-- a source gives no program for want of memory alone
abbrev pub IsSourceWant : CompileError → Type 0
IsSourceWant (compiling.Errors errors) = ⊥
IsSourceWant (compiling.Name name) = ⊥
IsSourceWant compiling.Memory = Unit {0}

-- memory alone was wanting
abbrev pub IsWant : TrialFail → Type 0
IsWant (fail.Source e) = IsSourceWant e
IsWant (fail.Run e) = e ≡ run.Memory
