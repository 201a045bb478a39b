use Rattle.std.proofs.Common.{subst}
use Rattle.isle_reading.specs.Reader.{run}
use Rattle.isle_reading.specs.Views.{left, Comes}
use Rattle.isle_reading.proofs.Steps.{passed, then_comes, then_refuses, bind_refuses}
use Rattle.isle_answers.specs.Reading.{read_form}
use Rattle.isle_answers.specs.HeadViews.{form_head_seen}
use Rattle.isle_answers.specs.Reading.{read_form_after}
use Rattle.isle_answers.specs.Views.{form_seen}
use Rattle.isle_answers.proofs.reading.form.Goals as goal

pub returns-in_err-head : goal.returns-in_err-head
unfolding read_form
returns-in_err-head c = passed _ _ _ _ _ c.from_residual-in_err-head.ensures.1 (then_refuses _ _ _ _ _ _ c.in_ok-at.ensures (bind_refuses _ _ _ _ c.in_err-head.ensures))

pub returns : goal.returns
unfolding read_form
returns c =
    let after = subst (λ d. Comes form_seen c.form_after.result (run (read_form_after c.args.most d c.in_ok-at.at (form_head_seen c.in_ok-head.head)) (left c.head.new.tokens)) (left c.form_after.new.tokens)) c.most_inside.ensures c.form_after.ensures in
    then_comes _ _ _ _ _ _ _ _ c.in_ok-at.ensures (then_comes _ _ _ _ _ _ _ _ c.in_ok-head.ensures (after))
