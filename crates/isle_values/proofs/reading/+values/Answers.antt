use Rattle.std.proofs.Common.{◌∙◌, rules, subst, sym}
use Rattle.isle_reading.specs.Views.{left, Refuses}
use Rattle.isle_reading.proofs.Steps.{passed, then_got, done_got, then_refuses, bind_refuses}
use Rattle.isle_reading.proofs.ListSteps.{list-more, list-end, list-refuses}
use Rattle.isle_values.proofs.Sees.{sees}
use Rattle.isle_values.proofs.ValueSteps.{value_none, value_made}
use Rattle.isle_values.proofs.reading.+values.Goals as goal

pub parts-returns-in-Some : goal.parts-returns-in-Some
parts-returns-in-Some t c = list-end _ _ _ c.in-Some.field-0 _ _ _ _ c.loop-test.true (search rules) c.skip.ensures c.loop.invariant

pub parts-returns-in_err-value-in-None : goal.parts-returns-in_err-value-in-None
parts-returns-in_err-value-in-None t c =
    passed _ _ _ _ _ c.from_residual.ensures.1 (list-refuses _ _ _ _ _ _ _ c.loop-test.true (value_none _ _) (search rules) c.in_err-value-in-None.ensures c.loop.invariant)

pub parts-loop-preserved : goal.parts-loop-preserved
parts-loop-preserved t c = list-more _ _ _ _ _ _ _ _ _ _ c.loop-test.true (value_none _ _) (search rules) c.in_ok-value-in-None.ensures c.in_ok-push-in-None.ensures.items c.loop.invariant

pub value-returns-in_err-name-in-Some : goal.value-returns-in_err-name-in-Some
value-returns-in_err-name-in-Some t c =
    let begun = value_made c.args.most c.args.depth c.in-Some.field-0 (left c.args.tokens.now) (search rules) (search rules) in
    passed _ _ _ _ _ c.from_residual-in_err-name-in-Some.ensures.1
    (subst (Refuses c.in_err-name-in-Some.field-0.0) (sym begun) (then_refuses _ _ _ _ _ _ c.in_ok-open-in-Some.ensures (bind_refuses _ _ _ _ c.in_err-name-in-Some.ensures)))

pub value-returns-in_err-inner-in-Some : goal.value-returns-in_err-inner-in-Some
value-returns-in_err-inner-in-Some t c =
    let begun = value_made c.args.most c.args.depth c.in-Some.field-0 (left c.args.tokens.now) (search rules) (search rules) in
    passed _ _ _ _ _ c.from_residual-in_err-inner-in-Some.ensures.1
    (subst (Refuses c.in_err-inner-in-Some.field-0.0) (sym begun) (then_refuses _ _ _ _ _ _ c.in_ok-open-in-Some.ensures (then_refuses _ _ _ _ _ _ c.in_ok-name-in-Some.ensures (bind_refuses _ _ _ _ c.in_err-inner-in-Some.ensures))))

pub value-returns-in_ok-inner-in-Some : goal.value-returns-in_ok-inner-in-Some
value-returns-in_ok-inner-in-Some t c =
    value_made c.args.most c.args.depth c.in-Some.field-0 (left c.args.tokens.now) (search rules) (search rules)
    ∙ then_got _ _ _ _ _ _ c.in_ok-open-in-Some.ensures (then_got _ _ _ _ _ _ c.in_ok-name-in-Some.ensures (then_got _ _ _ _ _ _ c.in_ok-inner-in-Some.ensures (search (rules, done_got, sees))))
