use Rattle.std.proofs.Common.{◌≡◌, ◌++◌, map, drop}
use Rattle.isle_core.specs.ValueViews.{turn_answers}
use Rattle.isle_core.specs.RuleViews.{environment}
use Rattle.isle_answers.specs.Views.{forms_seen}
use Rattle.isle_run_inputs.specs.AnswersAt.{turns_at}
use Rattle.isle_run_inputs.proofs.turns.turns_at.Given as goal

abbrev pub invariant-loop-form : goal.invariant-loop-form
invariant-loop-form l =
    turns_at (environment l.fn.makers l.fn.termenv) (forms_seen l.fn.forms) ≡ map turn_answers l.all.items ++ turns_at (environment l.fn.makers l.fn.termenv) (forms_seen (drop l.form-index l.fn.forms))
