use Rattle.std.proofs.Common.{refl, ◌∙◌, arith}
use Rattle.isle_lexer.specs.LexerViews.{seen}
use Rattle.isle_lexer.specs.Token.{Between, InComment}
use Rattle.isle_lexer.proofs.Coming.{in_comment_next, at_end}
use Rattle.isle_lexer.proofs.comments.comment_end.Goals as goal

pub returns-in-None-clause-some : goal.returns-in-None-clause-some
returns-in-None-clause-some c =
    λ from. c.loop-place.invariant.comes from
    ∙ in_comment_next c.args.text.now c.loop-place.place from c.loop-place.outer (seen c.loop-place.last) Between c.loop-place-test.true (c.in-None.ensures.none refl from)

pub loop-place-preserved : goal.loop-place-preserved
loop-place-preserved c = record {
  comes = λ from. c.loop-place.invariant.comes from
      ∙ in_comment_next c.args.text.now c.loop-place.place from c.loop-place.outer (seen c.loop-place.last) (InComment from c.in-Some.open.0 (seen c.in-Some.open.1)) c.loop-place-test.true (c.in-Some.ensures.some from);
  outer = omega (arith, c.in-Some.ensures.outer, c.loop-place.invariant.outer);
}

pub returns-clause-none : goal.returns-clause-none
returns-clause-none c =
    λ e from. c.loop-place.invariant.comes from ∙ at_end c.args.text.now c.loop-place.place (InComment from c.loop-place.outer (seen c.loop-place.last)) c.loop-place-test.false
