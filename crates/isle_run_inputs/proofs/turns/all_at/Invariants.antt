use Rattle.std.proofs.Common.{◌≡◌, ◌++◌, map, drop}
use Rattle.isle_core.specs.ValueViews.{answer}
use Rattle.isle_answers.specs.declared.form.AnswerForm.{AnswerForm}
use Rattle.isle_answers.specs.Views.{answer_seen}
use Rattle.isle_core.specs.Rule.{Environment}
use Rattle.isle_run_inputs.specs.AnswersAt.{answer_at}
use Rattle.isle_run_inputs.proofs.turns.all_at.Given as goal

abbrev pub invariant-loop-form : goal.invariant-loop-form
invariant-loop-form l =
    (env : Environment) → env.types ≡ l.fn.makers
    → map (λ (a : AnswerForm). answer_at env l.fn.tys (answer_seen a)) l.fn.forms ≡ map answer l.found.items ++ map (λ (a : AnswerForm). answer_at env l.fn.tys (answer_seen a)) (drop l.form-index l.fn.forms)
