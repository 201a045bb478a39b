-- Why a run is refused, with the place of the form that is wrong.
use Rattle.std.specs.Prelude.{ℕ, List}
use Rattle.isle_answers.specs.Form.{Form}
use Rattle.isle_run_inputs.specs.Places.{place_at}
use Rattle.isle_interpreter.specs.declared.run_error.RunError.{RunError}
use Rattle.isle_interpreter.specs.declared.run_error.RunError.TheVariants as error
use Rattle.isle_run.specs.declared.run_fail.RunFail.{RunFail}
use Rattle.isle_run.specs.declared.run_fail.RunFail.TheVariants as fail

-- the number of an entry becomes the place of its form
abbrev pub placed : RunError → (end : ℕ) → List Form → RunFail
placed error.NoTerm end forms = fail.NoTerm
placed error.ArgCount end forms = fail.ArgCount
placed (error.ArgType i) end forms = fail.ArgType i
placed (error.BadAnswers i) end forms = fail.BadAnswers (place_at end forms i)
placed error.Memory end forms = fail.Memory
