use Rattle.std.proofs.Common.{◌∙◌, rules, ap, sym, subst}
use Rattle.isle_reading.specs.Reader.{run}
use Rattle.isle_reading.specs.Views.{left, Refuses}
use Rattle.isle_reading.proofs.Steps.{then_got, done_got, then_refuses, bind_refuses, passed}
use Rattle.isle_grammar.specs.Reading.{body_behind}
use Rattle.isle_syntax.specs.ReadingViews.{body_head_seen}
use Rattle.isle_syntax.proofs.body.body_behind.Goals as goal

pub returns-in_err-close-in-Primitive : goal.returns-in_err-close-in-Primitive
returns-in_err-close-in-Primitive c = passed _ _ _ _ _ c.from_residual-in_err-close-in-Primitive.ensures.1 (subst (Refuses c.in_err-close-in-Primitive.field-0.0) (sym (ap (λ h. run (body_behind c.args.most (body_head_seen h)) (left c.args.tokens.now)) c.in-Primitive.is)) (then_refuses _ _ _ _ _ _ c.in_ok-name-in-Primitive.ensures (bind_refuses _ _ _ _ c.in_err-close-in-Primitive.ensures)))

pub returns-in_ok-close-in-Primitive : goal.returns-in_ok-close-in-Primitive
returns-in_ok-close-in-Primitive c = ap (λ h. run (body_behind c.args.most (body_head_seen h)) (left c.args.tokens.now)) c.in-Primitive.is ∙ then_got _ _ _ _ _ _ c.in_ok-name-in-Primitive.ensures (then_got _ _ _ _ _ _ c.in_ok-close-in-Primitive.ensures (search (rules, done_got)))

pub returns-in_ok-variants-in-Enum : goal.returns-in_ok-variants-in-Enum
returns-in_ok-variants-in-Enum c = ap (λ h. run (body_behind c.args.most (body_head_seen h)) (left c.args.tokens.now)) c.in-Enum.is ∙ then_got _ _ _ _ _ _ c.in_ok-variants-in-Enum.ensures (search (rules, done_got))

pub returns-in_ok-shape-in-Struct : goal.returns-in_ok-shape-in-Struct
returns-in_ok-shape-in-Struct c = ap (λ h. run (body_behind c.args.most (body_head_seen h)) (left c.args.tokens.now)) c.in-Struct.is ∙ then_got _ _ _ _ _ _ c.in_ok-shape-in-Struct.ensures (search (rules, done_got))
