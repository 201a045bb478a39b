use Rattle.std.proofs.Common.{◌∙◌, rules, ap, sym, subst}
use Rattle.isle_reading.specs.Reader.{run}
use Rattle.isle_reading.specs.Views.{left, Refuses}
use Rattle.isle_reading.proofs.Steps.{passed, then_got, done_got, then_refuses, bind_refuses}
use Rattle.isle_answers.specs.HeadViews.{answer_head_seen}
use Rattle.isle_answers.specs.Reading.{read_answer_after}
use Rattle.isle_answers.proofs.answer.answer_after.Goals as goal

pub returns-in_err-close-in-Some : goal.returns-in_err-close-in-Some
unfolding read_answer_after
returns-in_err-close-in-Some c =
    let head = ap (λ h. run (read_answer_after c.args.most c.args.depth (answer_head_seen h)) (left c.args.tokens.now)) c.in-Some.is in
    passed _ _ _ _ _ c.from_residual-in_err-close-in-Some.ensures.1 (subst (Refuses c.in_err-close-in-Some.field-0.0) (sym head) (then_refuses _ _ _ _ _ _ c.in_ok-found-in-Some.ensures (bind_refuses _ _ _ _ c.in_err-close-in-Some.ensures)))

pub returns-in_ok-close-in-Some : goal.returns-in_ok-close-in-Some
unfolding read_answer_after
returns-in_ok-close-in-Some c =
    ap (λ h. run (read_answer_after c.args.most c.args.depth (answer_head_seen h)) (left c.args.tokens.now)) c.in-Some.is
    ∙ then_got _ _ _ _ _ _ c.in_ok-found-in-Some.ensures (then_got _ _ _ _ _ _ c.in_ok-close-in-Some.ensures (done_got _ _))

pub returns-in_ok-close-in-Nothing : goal.returns-in_ok-close-in-Nothing
unfolding read_answer_after
returns-in_ok-close-in-Nothing c =
    ap (λ h. run (read_answer_after c.args.most c.args.depth (answer_head_seen h)) (left c.args.tokens.now)) c.in-Nothing.is
    ∙ then_got _ _ _ _ _ _ c.in_ok-close-in-Nothing.ensures (done_got _ _)

pub returns-in_ok-several-in-List : goal.returns-in_ok-several-in-List
unfolding read_answer_after
returns-in_ok-several-in-List c =
    ap (λ h. run (read_answer_after c.args.most c.args.depth (answer_head_seen h)) (left c.args.tokens.now)) c.in-List.is
    ∙ then_got _ _ _ _ _ _ c.in_ok-several-in-List.ensures (search (rules, done_got))

pub returns-in_ok-result_after-in-Result : goal.returns-in_ok-result_after-in-Result
unfolding read_answer_after
returns-in_ok-result_after-in-Result c =
    ap (λ h. run (read_answer_after c.args.most c.args.depth (answer_head_seen h)) (left c.args.tokens.now)) c.in-Result.is
    ∙ then_got _ _ _ _ _ _ c.in_ok-result_after-in-Result.ensures (done_got _ _)
