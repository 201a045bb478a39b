use Rattle.std.proofs.Common.{rules, ◌≡◌, ap, ◌∙◌}
use Rattle.isle_core.specs.ValueViews.{values}
use Rattle.isle_answers.specs.Views.{result_seen}
use Rattle.isle_run_inputs.specs.AnswersAt.{result_at}
use Rattle.isle_run_inputs.proofs.FormSteps.{one_more, all_made, seen_first}
use Rattle.isle_run_inputs.proofs.answer.items_at.Goals as goal

pub loop-form-preserved : goal.loop-form-preserved
loop-form-preserved c = λ env e.
    let made : c.new.result ≡ c.in_ok-results.results.items = search rules in
    one_more values (λ x. result_at env c.args.tys.now (result_seen x)) c.args.forms.now c.loop-form.form-index c.form-item.result c.loop-form.found.items c.push.new.self.items c.new.result c.loop-form-test.true c.form-item.is
    (ap values made ∙ c.in_ok-results.ensures env e) c.in_ok-push.ensures.items (c.loop-form.invariant env e)

pub returns : goal.returns
returns c = λ env e.
    all_made values (λ x. result_at env c.args.tys.now (result_seen x)) c.args.forms.now c.loop-form.form-index c.loop-form.found.items (search rules) (c.loop-form.invariant env e)
    ∙ seen_first (result_at env c.args.tys.now) result_seen c.args.forms.now
