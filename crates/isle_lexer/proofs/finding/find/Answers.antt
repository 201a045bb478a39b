use Rattle.std.proofs.Common.{arith, ◌∙◌}
use Rattle.isle_lexer.specs.Token.{Between}
use Rattle.isle_lexer.proofs.Coming.{at_end}
use Rattle.isle_lexer.proofs.finding.find.Goals as goal

pub returns-in-Token : goal.returns-in-Token
returns-in-Token c = (
  c.loop-at.invariant.comes ∙ c.in-Token.ensures.0,
  omega (arith, c.loop-at.invariant.forward, c.in-Token.ensures.1),
  c.in-Token.ensures.2,
)

pub returns : goal.returns
returns c = c.loop-at.invariant.comes ∙ at_end c.args.text.now c.loop-at.at Between c.loop-at-test.false
