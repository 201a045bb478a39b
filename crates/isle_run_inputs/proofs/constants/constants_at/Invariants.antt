use Rattle.std.proofs.Common.{◌≡◌, ◌++◌, map, drop}
use Rattle.isle_core.specs.Rule.{Environment}
use Rattle.isle_core.specs.ValueViews.{const}
use Rattle.isle_answers.specs.Views.{forms_seen}
use Rattle.isle_run_inputs.specs.AnswersAt.{constants_at}
use Rattle.isle_run_inputs.proofs.constants.constants_at.Given as goal

abbrev pub invariant-loop-form : goal.invariant-loop-form
invariant-loop-form l =
    (env : Environment) → env.types ≡ l.fn.makers → constants_at env (forms_seen l.fn.forms) ≡ map const l.found.items ++ constants_at env (forms_seen (drop l.form-index l.fn.forms))
