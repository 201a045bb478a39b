use Rattle.std.proofs.Common.{◌≡◌, ◌++◌, map, drop}
use Rattle.isle_core.specs.ValueViews.{values}
use Rattle.isle_answers.specs.declared.form.ResultForm.{ResultForm}
use Rattle.isle_answers.specs.Views.{result_seen}
use Rattle.isle_core.specs.Rule.{Environment}
use Rattle.isle_run_inputs.specs.AnswersAt.{result_at}
use Rattle.isle_run_inputs.proofs.answer.items_at.Given as goal

abbrev pub invariant-loop-form : goal.invariant-loop-form
invariant-loop-form l =
    (env : Environment) → env.types ≡ l.fn.makers
    → map (λ (r : ResultForm). result_at env l.fn.tys (result_seen r)) l.fn.forms ≡ map values l.found.items ++ map (λ (r : ResultForm). result_at env l.fn.tys (result_seen r)) (drop l.form-index l.fn.forms)
