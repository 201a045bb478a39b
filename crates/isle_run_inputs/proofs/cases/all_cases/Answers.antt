use Rattle.std.proofs.Common.{rules}
use Rattle.isle_core.specs.ValueViews.{case}
use Rattle.isle_answers.specs.Views.{case_seen}
use Rattle.isle_run_inputs.specs.AskedFunctions.{asked_seen}
use Rattle.isle_run_inputs.specs.AnswersAt.{case_at}
use Rattle.isle_run_inputs.proofs.FormSteps.{one_more, all_made}
use Rattle.isle_run_inputs.proofs.cases.all_cases.Goals as goal

pub loop-form-preserved : goal.loop-form-preserved
loop-form-preserved c = λ env e.
    one_more case (λ x. case_at env (asked_seen c.args.asked) (case_seen x)) c.args.forms.now c.loop-form.form-index c.form-item.result c.loop-form.found.items c.push.new.self.items c.in_ok-case_at.field-0 c.loop-form-test.true c.form-item.is (c.in_ok-case_at.ensures env e) c.in_ok-push.ensures.items (c.loop-form.invariant env e)

pub returns : goal.returns
returns c = λ env e. all_made case (λ x. case_at env (asked_seen c.args.asked) (case_seen x)) c.args.forms.now c.loop-form.form-index c.loop-form.found.items (search rules) (c.loop-form.invariant env e)
