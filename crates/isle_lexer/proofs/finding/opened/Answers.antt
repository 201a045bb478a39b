use Rattle.std.proofs.Common.{arith, refl, ◌∙◌}
use Rattle.isle_lexer.proofs.Coming.{open_here, comment_here}
use Rattle.isle_lexer.proofs.finding.opened.Goals.{then-at-text-via-then-at-text, then-at-text-via-else-at-text+then-text-at-ne59}
use Rattle.isle_lexer.proofs.finding.opened.Goals as goal

pub returns-then-at-text : goal.returns-then-at-text
returns-then-at-text c = (
  open_here c.args.text.now c.args.at c.requires.inside c.requires.opens (λ l. elim c.then-at-text.branch [
    | then-at-text-via-then-at-text w ↦ absurd (omega (arith, l, w.if-at-text.true))
    | then-at-text-via-else-at-text+then-text-at-ne59 w ↦ w.if-text-at-ne59.true
  ]),
  omega arith,
  omega (arith, c.requires.inside),
)

pub returns-in-Some : goal.returns-in-Some
returns-in-Some c = (
  comment_here c.args.text.now c.args.at c.if-at-text.false c.requires.opens c.if-text-at-ne59.false ∙ c.in-Some.ensures.some c.args.at,
  omega (arith, c.in-Some.ensures.within),
  c.in-Some.ensures.within.1,
)

pub returns-in-None : goal.returns-in-None
returns-in-None c = comment_here c.args.text.now c.args.at c.if-at-text.false c.requires.opens c.if-text-at-ne59.false ∙ c.in-None.ensures.none refl c.args.at
