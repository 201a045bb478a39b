use Rattle.std.proofs.Common.{◌≡◌, ◌++◌, drop, map}
use Rattle.std.specs.Prelude.{List}
use Rattle.isle_core.specs.ValueViews.{case}
use Rattle.isle_values.specs.declared.written.Written.{Written}
use Rattle.isle_answers.specs.declared.form.AnswerForm.{AnswerForm}
use Rattle.isle_answers.specs.Views.{case_seen}
use Rattle.isle_core.specs.Rule.{Environment}
use Rattle.isle_run_inputs.specs.AskedFunctions.{asked_seen}
use Rattle.isle_run_inputs.specs.AnswersAt.{case_at}
use Rattle.isle_run_inputs.proofs.cases.all_cases.Given as goal

abbrev pub invariant-loop-form : goal.invariant-loop-form
invariant-loop-form l =
    (env : Environment) → env.types ≡ l.fn.makers
    → map (λ (c : List Written × AnswerForm). case_at env (asked_seen l.fn.asked) (case_seen c)) l.fn.forms ≡ map case l.found.items ++ map (λ (c : List Written × AnswerForm). case_at env (asked_seen l.fn.asked) (case_seen c)) (drop l.form-index l.fn.forms)
