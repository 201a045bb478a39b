use Rattle.std.proofs.Common.{◌-◌, rules}
use Rattle.isle_reading.specs.Nesting.{most_open}
use Rattle.isle_reading.proofs.Steps.{passed}
use Rattle.isle_reading.proofs.ListSteps.{all-more, all-refuses}
use Rattle.isle_answers.specs.Reading.{held_after, read_form}
use Rattle.isle_answers.specs.Views.{form_seen}
use Rattle.isle_answers.proofs.reading.all_forms.Goals as goal

pub returns-in_err-form : goal.returns-in_err-form
returns-in_err-form c =
    passed _ _ _ _ _ c.from_residual.ensures.1 (all-refuses (read_form c.args.most (most_open - 1)) held_after c.loop.held _ _ _ _ _ _ c.loop-test.true (search rules) c.in_err-form.ensures c.loop.invariant)

pub loop-preserved : goal.loop-preserved
loop-preserved c =
    all-more form_seen (read_form c.args.most (most_open - 1)) held_after c.loop.held c.held_after-held.result _ _ _ _ _ _ _ _ c.loop-test.true (search rules) c.in_ok-form.ensures c.in_ok-push.ensures.items (search rules) c.loop.invariant
