use Rattle.std.proofs.Common.{◌∙◌, rules, ap, sym, subst}
use Rattle.isle_reading.specs.Reader.{run}
use Rattle.isle_reading.specs.Views.{left, Refuses}
use Rattle.isle_reading.proofs.Steps.{then_got, done_got, then_refuses, bind_refuses, passed}
use Rattle.isle_ast.proofs.Sees.{pattern_sees}
use Rattle.isle_grammar.specs.Reading.{if_behind}
use Rattle.isle_expressions.specs.ReadingViews.{if_head_seen}
use Rattle.isle_expressions.proofs.iflet.if_behind.Goals as goal

pub returns-in_err-rhs-in-IfLet : goal.returns-in_err-rhs-in-IfLet
returns-in_err-rhs-in-IfLet c = passed _ _ _ _ _ c.from_residual-in_err-rhs-in-IfLet.ensures.1 (subst (Refuses c.in_err-rhs-in-IfLet.field-0.0) (sym (ap (λ h. run (if_behind c.args.most c.args.depth (if_head_seen h)) (left c.args.tokens.now)) c.in-IfLet.is)) (then_refuses _ _ _ _ _ _ c.in_ok-lhs-in-IfLet.ensures (bind_refuses _ _ _ _ c.in_err-rhs-in-IfLet.ensures)))

pub returns-in_err-close-in-IfLet : goal.returns-in_err-close-in-IfLet
returns-in_err-close-in-IfLet c = passed _ _ _ _ _ c.from_residual-in_err-close-in-IfLet.ensures.1 (subst (Refuses c.in_err-close-in-IfLet.field-0.0) (sym (ap (λ h. run (if_behind c.args.most c.args.depth (if_head_seen h)) (left c.args.tokens.now)) c.in-IfLet.is)) (then_refuses _ _ _ _ _ _ c.in_ok-lhs-in-IfLet.ensures (then_refuses _ _ _ _ _ _ c.in_ok-rhs-in-IfLet.ensures (bind_refuses _ _ _ _ c.in_err-close-in-IfLet.ensures))))

pub returns-in_ok-close-in-IfLet : goal.returns-in_ok-close-in-IfLet
returns-in_ok-close-in-IfLet c = ap (λ h. run (if_behind c.args.most c.args.depth (if_head_seen h)) (left c.args.tokens.now)) c.in-IfLet.is ∙ then_got _ _ _ _ _ _ c.in_ok-lhs-in-IfLet.ensures (then_got _ _ _ _ _ _ c.in_ok-rhs-in-IfLet.ensures (then_got _ _ _ _ _ _ c.in_ok-close-in-IfLet.ensures (search (rules, done_got))))

pub returns-in_err-close-in-If : goal.returns-in_err-close-in-If
returns-in_err-close-in-If c = passed _ _ _ _ _ c.from_residual-in_err-close-in-If.ensures.1 (subst (Refuses c.in_err-close-in-If.field-0.0) (sym (ap (λ h. run (if_behind c.args.most c.args.depth (if_head_seen h)) (left c.args.tokens.now)) c.in-If.is)) (then_refuses _ _ _ _ _ _ c.in_ok-rhs-in-If.ensures (bind_refuses _ _ _ _ c.in_err-close-in-If.ensures)))

pub returns-in_ok-close-in-If : goal.returns-in_ok-close-in-If
returns-in_ok-close-in-If c = ap (λ h. run (if_behind c.args.most c.args.depth (if_head_seen h)) (left c.args.tokens.now)) c.in-If.is ∙ then_got _ _ _ _ _ _ c.in_ok-rhs-in-If.ensures (then_got _ _ _ _ _ _ c.in_ok-close-in-If.ensures (search (rules, done_got, pattern_sees)))
