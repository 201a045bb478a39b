use Rattle.std.proofs.Common.{◌≡◌, ◌∙◌, ◌-◌, ◌+◌, ◌∷◌, ◌++◌, [], map, sym, ap, subst}
use Rattle.std.proofs.lemmas.List.{map-append}
use Rattle.isle_reading.specs.Reader.{run, Got}
use Rattle.isle_reading.specs.Views.{left, Refuses}
use Rattle.isle_reading.proofs.Steps.{passed, then_got, done_got, then_refuses, bind_refuses, bind_got}
use Rattle.isle_answers.specs.HeadViews.{part_head_seen}
use Rattle.isle_answers.specs.Reading.{CaseHead, RestHead, read_part_head, read_part, read_cases}
use Rattle.isle_answers.specs.Views.{case_seen}
use Rattle.isle_answers.proofs.CaseSteps.{cases_is}
use Rattle.isle_answers.proofs.cases.cases.Goals as goal

pub returns-in_err-open : goal.returns-in_err-open
returns-in_err-open c =
    let whole = cases_is _ _ _ _ _ _ _ c.loop-test.true c.loop.invariant in
    passed _ _ _ _ _ c.from_residual.ensures.1 (subst (Refuses c.in_err-open.field-0.0) whole (bind_refuses _ _ _ _ c.in_err-open.ensures))

pub returns-in_err-part_head : goal.returns-in_err-part_head
returns-in_err-part_head c =
    let whole = cases_is _ _ _ _ _ _ _ c.loop-test.true c.loop.invariant in
    passed _ _ _ _ _ c.from_residual-in_err-part_head.ensures.1 (subst (Refuses c.in_err-part_head.field-0.0) whole (then_refuses _ _ _ _ _ _ c.in_ok-open.ensures (bind_refuses _ _ _ _ c.in_err-part_head.ensures)))

pub returns-in_err-case-in-Case : goal.returns-in_err-case-in-Case
unfolding read_part
returns-in_err-case-in-Case c =
    let whole = cases_is _ _ _ _ _ _ _ c.loop-test.true c.loop.invariant in
    let head : run read_part_head (left c.open.new.self) ≡ Got CaseHead (left c.part_head.new.tokens) = c.in_ok-part_head.ensures ∙ ap (λ h. Got (part_head_seen h) (left c.part_head.new.tokens)) c.in-Case.is in
    passed _ _ _ _ _ c.from_residual-in_err-case-in-Case.ensures.1
    (subst (Refuses c.in_err-case-in-Case.field-0.0) whole (then_refuses _ _ _ _ _ _ c.in_ok-open.ensures (then_refuses _ _ _ _ _ _ head (bind_refuses _ _ _ _ c.in_err-case-in-Case.ensures))))

pub returns-in_err-rest-in-Rest : goal.returns-in_err-rest-in-Rest
unfolding read_part
returns-in_err-rest-in-Rest c =
    let whole = cases_is _ _ _ _ _ _ _ c.loop-test.true c.loop.invariant in
    let head : run read_part_head (left c.open.new.self) ≡ Got RestHead (left c.part_head.new.tokens) = c.in_ok-part_head.ensures ∙ ap (λ h. Got (part_head_seen h) (left c.part_head.new.tokens)) c.in-Rest.is in
    passed _ _ _ _ _ c.from_residual-in_err-rest-in-Rest.ensures.1
    (subst (Refuses c.in_err-rest-in-Rest.field-0.0) whole (then_refuses _ _ _ _ _ _ c.in_ok-open.ensures (then_refuses _ _ _ _ _ _ head (bind_refuses _ _ _ _ c.in_err-rest-in-Rest.ensures))))

pub returns-in-Rest : goal.returns-in-Rest
unfolding read_part
returns-in-Rest c =
    let whole = cases_is _ _ _ _ _ _ _ c.loop-test.true c.loop.invariant in
    let head : run read_part_head (left c.open.new.self) ≡ Got RestHead (left c.part_head.new.tokens) = c.in_ok-part_head.ensures ∙ ap (λ h. Got (part_head_seen h) (left c.part_head.new.tokens)) c.in-Rest.is in
    sym whole ∙ then_got _ _ _ _ _ _ c.in_ok-open.ensures (then_got _ _ _ _ _ _ head (then_got _ _ _ _ _ _ c.in_ok-rest-in-Rest.ensures (done_got _ _)))

pub loop-preserved : goal.loop-preserved
unfolding read_part
loop-preserved c =
    let whole = cases_is _ _ _ _ _ _ _ c.loop-test.true c.loop.invariant in
    let head : run read_part_head (left c.open.new.self) ≡ Got CaseHead (left c.part_head.new.tokens) = c.in_ok-part_head.ensures ∙ ap (λ h. Got (part_head_seen h) (left c.part_head.new.tokens)) c.in-Case.is in
    let pushed : map case_seen c.push.new.self.items ≡ map case_seen c.loop.cases.items ++ case_seen c.in_ok-case-in-Case.field-0 ∷ [] = ap (map case_seen) c.in_ok-push-in-Case.ensures.items ∙ map-append case_seen c.loop.cases.items (c.in_ok-case-in-Case.field-0 ∷ []) in
    ap (λ done. run (read_cases c.args.most c.args.depth (c.args.most - (c.loop.counter + 1)) done) (left c.case.new.tokens)) pushed
    ∙ sym (then_got _ _ _ _ _ _ c.in_ok-open.ensures (then_got _ _ _ _ _ _ head (bind_got _ _ _ _ _ c.in_ok-case-in-Case.ensures))) ∙ whole
