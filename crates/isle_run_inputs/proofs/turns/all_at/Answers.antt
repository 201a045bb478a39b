use Rattle.std.proofs.Common.{rules}
use Rattle.isle_core.specs.ValueViews.{answer}
use Rattle.isle_answers.specs.Views.{answer_seen}
use Rattle.isle_run_inputs.specs.AnswersAt.{answer_at}
use Rattle.isle_run_inputs.proofs.FormSteps.{one_more, all_made}
use Rattle.isle_run_inputs.proofs.turns.all_at.Goals as goal

pub loop-form-preserved : goal.loop-form-preserved
loop-form-preserved c = λ env e.
    one_more answer (λ a. answer_at env c.args.tys.now (answer_seen a)) c.args.forms.now c.loop-form.form-index c.form-item.result c.loop-form.found.items c.push.new.self.items c.in_ok-answer_at.field-0 c.loop-form-test.true c.form-item.is (c.in_ok-answer_at.ensures env e) c.in_ok-push.ensures.items (c.loop-form.invariant env e)

pub returns : goal.returns
returns c = λ env e. all_made answer (λ a. answer_at env c.args.tys.now (answer_seen a)) c.args.forms.now c.loop-form.form-index c.loop-form.found.items (search rules) (c.loop-form.invariant env e)
