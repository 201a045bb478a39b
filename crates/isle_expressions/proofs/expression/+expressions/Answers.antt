use Rattle.std.proofs.Common.{◌≡◌, ◌∙◌, rules, ap, sym, subst, map}
use Rattle.isle_reading.specs.Reader.{Got}
use Rattle.isle_reading.specs.Views.{left, Refuses, Comes}
use Rattle.isle_reading.proofs.Steps.{then_got, then_comes, done_got, then_refuses, bind_refuses, passed}
use Rattle.isle_reading.proofs.ListSteps.{list-more, list-end, list-refuses}
use Rattle.isle_ast.proofs.Sees.{expr_sees, let-parts}
use Rattle.isle_grammar.specs.Reading.{read_let, read_form_list}
use Rattle.isle_expressions.specs.ReadingViews.{expr_head_seen, binding_seen}
use Rattle.isle_expressions.proofs.ExpressionSteps.{expr_none, binding_none, bindings_more, binding_more}
use Rattle.isle_expressions.proofs.expression.+expressions.Goals as goal

pub arguments-returns-in-Some : goal.arguments-returns-in-Some
arguments-returns-in-Some t c = list-end _ _ _ c.in-Some.field-0 _ _ _ _ c.loop-test.true (search rules) c.skip.ensures c.loop.invariant

pub arguments-returns-in_err-expression-in-None : goal.arguments-returns-in_err-expression-in-None
arguments-returns-in_err-expression-in-None t c = passed _ _ _ _ _ c.from_residual.ensures.1 (list-refuses _ _ _ _ _ _ _ c.loop-test.true (expr_none _ _) (search rules) c.in_err-expression-in-None.ensures c.loop.invariant)

pub arguments-loop-preserved : goal.arguments-loop-preserved
arguments-loop-preserved t c = list-more _ _ _ _ _ _ _ _ _ _ c.loop-test.true (expr_none _ _) (search rules) c.in_ok-expression-in-None.ensures c.in_ok-push-in-None.ensures.items c.loop.invariant

pub binding_list-returns-in-Some : goal.binding_list-returns-in-Some
binding_list-returns-in-Some t c = list-end _ _ _ c.in-Some.field-0 _ _ _ _ c.loop-test.true (search rules) c.skip.ensures c.loop.invariant

pub binding_list-returns-in_err-binding-in-None : goal.binding_list-returns-in_err-binding-in-None
binding_list-returns-in_err-binding-in-None t c = passed _ _ _ _ _ c.from_residual.ensures.1 (list-refuses _ _ _ _ _ _ _ c.loop-test.true (binding_none _ _) (search rules) c.in_err-binding-in-None.ensures c.loop.invariant)

pub binding_list-loop-preserved : goal.binding_list-loop-preserved
binding_list-loop-preserved t c = list-more _ _ _ _ _ _ _ _ _ _ c.loop-test.true (binding_none _ _) (search rules) c.in_ok-binding-in-None.ensures c.in_ok-push-in-None.ensures.items c.loop.invariant

pub let_in-returns-in_err-value : goal.let_in-returns-in_err-value
unfolding read_let
let_in-returns-in_err-value t c = passed _ _ _ _ _ c.from_residual-in_err-value.ensures.1 (then_refuses _ _ _ _ _ _ c.in_ok-lets.ensures (bind_refuses _ _ _ _ c.in_err-value.ensures))

pub let_in-returns-in_err-close : goal.let_in-returns-in_err-close
unfolding read_let
let_in-returns-in_err-close t c = passed _ _ _ _ _ c.from_residual-in_err-close.ensures.1 (then_refuses _ _ _ _ _ _ c.in_ok-lets.ensures (then_refuses _ _ _ _ _ _ c.in_ok-value.ensures (bind_refuses _ _ _ _ c.in_err-close.ensures)))

pub let_in-returns : goal.let_in-returns
unfolding read_let
let_in-returns t c = then_got _ _ _ _ _ _ c.in_ok-lets.ensures (then_got _ _ _ _ _ _ c.in_ok-value.ensures (then_got _ _ _ _ _ _ c.in_ok-close.ensures (search (rules, done_got, expr_sees))))

pub list-returns-in_err-head : goal.list-returns-in_err-head
unfolding read_form_list
list-returns-in_err-head t c = passed _ _ _ _ _ c.from_residual-in_err-head.ensures.1 (then_refuses _ _ _ _ _ _ c.in_ok-open.ensures (bind_refuses _ _ _ _ c.in_err-head.ensures))

pub list-returns-in-Let : goal.list-returns-in-Let
unfolding read_form_list read_let
list-returns-in-Let t c = then_comes _ _ _ _ _ _ _ _ c.in_ok-open.ensures (then_comes _ _ _ _ _ _ _ _ (c.in_ok-head.ensures ∙ ap (λ h. Got (expr_head_seen h) (left c.read_head.new.tokens)) c.in-Let.is) c.let_in.ensures)

pub list-returns-in_err-args-in-Call : goal.list-returns-in_err-args-in-Call
unfolding read_form_list
list-returns-in_err-args-in-Call t c =
    passed _ _ _ _ _ c.from_residual-in_err-args-in-Call.ensures.1 (then_refuses _ _ _ _ _ _ c.in_ok-open.ensures (then_refuses _ _ _ _ _ _ (c.in_ok-head.ensures ∙ ap (λ h. Got (expr_head_seen h) (left c.read_head.new.tokens)) c.in-Call.is) (bind_refuses _ _ _ _ c.in_err-args-in-Call.ensures)))

pub list-returns-in_ok-args-in-Call : goal.list-returns-in_ok-args-in-Call
unfolding read_form_list
list-returns-in_ok-args-in-Call t c =
    then_got _ _ _ _ _ _ c.in_ok-open.ensures (then_got _ _ _ _ _ _ (c.in_ok-head.ensures ∙ ap (λ h. Got (expr_head_seen h) (left c.read_head.new.tokens)) c.in-Call.is) (then_got _ _ _ _ _ _ c.in_ok-args-in-Call.ensures (search (rules, done_got, expr_sees))))

pub bindings-returns-in_err-open : goal.bindings-returns-in_err-open
bindings-returns-in_err-open t c = passed _ _ _ _ _ c.from_residual.ensures.1 (subst (Refuses c.in_err-open.field-0.0) (sym (bindings_more c.args.most c.args.depth (left c.args.tokens.now) (search rules))) (bind_refuses _ _ _ _ c.in_err-open.ensures))

pub bindings-returns : goal.bindings-returns
bindings-returns t c = subst (λ o. Comes (λ lets. map binding_seen lets.items) c.binding_list.result o (left c.binding_list.new.tokens)) (sym (bindings_more c.args.most c.args.depth (left c.args.tokens.now) (search rules))) (then_comes _ _ _ _ _ _ _ _ c.in_ok-open.ensures c.binding_list.ensures)

pub binding-returns-in_err-open : goal.binding-returns-in_err-open
binding-returns-in_err-open t c = passed _ _ _ _ _ c.from_residual.ensures.1 (subst (Refuses c.in_err-open.field-0.0) (sym (binding_more c.args.most c.args.depth (left c.args.tokens.now) (search rules))) (bind_refuses _ _ _ _ c.in_err-open.ensures))

pub binding-returns-in_err-var : goal.binding-returns-in_err-var
binding-returns-in_err-var t c = passed _ _ _ _ _ c.from_residual-in_err-var.ensures.1 (subst (Refuses c.in_err-var.field-0.0) (sym (binding_more c.args.most c.args.depth (left c.args.tokens.now) (search rules))) (then_refuses _ _ _ _ _ _ c.in_ok-open.ensures (bind_refuses _ _ _ _ c.in_err-var.ensures)))

pub binding-returns-in_err-ty : goal.binding-returns-in_err-ty
binding-returns-in_err-ty t c = passed _ _ _ _ _ c.from_residual-in_err-ty.ensures.1 (subst (Refuses c.in_err-ty.field-0.0) (sym (binding_more c.args.most c.args.depth (left c.args.tokens.now) (search rules))) (then_refuses _ _ _ _ _ _ c.in_ok-open.ensures (then_refuses _ _ _ _ _ _ c.in_ok-var.ensures (bind_refuses _ _ _ _ c.in_err-ty.ensures))))

pub binding-returns-in_err-val : goal.binding-returns-in_err-val
binding-returns-in_err-val t c = passed _ _ _ _ _ c.from_residual-in_err-val.ensures.1 (subst (Refuses c.in_err-val.field-0.0) (sym (binding_more c.args.most c.args.depth (left c.args.tokens.now) (search rules))) (then_refuses _ _ _ _ _ _ c.in_ok-open.ensures (then_refuses _ _ _ _ _ _ c.in_ok-var.ensures (then_refuses _ _ _ _ _ _ c.in_ok-ty.ensures (bind_refuses _ _ _ _ c.in_err-val.ensures)))))

pub binding-returns-in_err-close : goal.binding-returns-in_err-close
binding-returns-in_err-close t c = passed _ _ _ _ _ c.from_residual-in_err-close.ensures.1 (subst (Refuses c.in_err-close.field-0.0) (sym (binding_more c.args.most c.args.depth (left c.args.tokens.now) (search rules))) (then_refuses _ _ _ _ _ _ c.in_ok-open.ensures (then_refuses _ _ _ _ _ _ c.in_ok-var.ensures (then_refuses _ _ _ _ _ _ c.in_ok-ty.ensures (then_refuses _ _ _ _ _ _ c.in_ok-val.ensures (bind_refuses _ _ _ _ c.in_err-close.ensures))))))

pub binding-returns : goal.binding-returns
binding-returns t c = binding_more c.args.most c.args.depth (left c.args.tokens.now) (search rules) ∙ then_got _ _ _ _ _ _ c.in_ok-open.ensures (then_got _ _ _ _ _ _ c.in_ok-var.ensures (then_got _ _ _ _ _ _ c.in_ok-ty.ensures (then_got _ _ _ _ _ _ c.in_ok-val.ensures (then_got _ _ _ _ _ _ c.in_ok-close.ensures (search (rules, done_got, let-parts))))))
