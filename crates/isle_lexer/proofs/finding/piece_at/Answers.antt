use Rattle.std.proofs.Common.{arith, ◌∙◌}
use Rattle.isle_lexer.specs.Token.{Between, InLine, InWord}
use Rattle.isle_lexer.proofs.Coming.{begins_here, single_here}
use Rattle.isle_lexer.proofs.finding.piece_at.Goals as goal

pub returns-in-Nothing : goal.returns-in-Nothing
returns-in-Nothing c = (begins_here c.args.text.now c.args.at Between c.requires (c.in-Nothing.ensures c.args.at), omega arith, omega (arith, c.requires))

pub returns-in-Line : goal.returns-in-Line
returns-in-Line c = (
  begins_here c.args.text.now c.args.at InLine c.requires (c.in-Line.ensures c.args.at) ∙ c.line_end.ensures.line,
  omega (arith, c.line_end.ensures.forward),
  c.line_end.ensures.within,
)

pub returns-in-Single : goal.returns-in-Single
returns-in-Single c = (single_here c.args.text.now c.args.at c.requires (c.in-Single.ensures c.args.at), omega arith, omega (arith, c.requires))

pub returns-in-Word : goal.returns-in-Word
returns-in-Word c = (
  begins_here c.args.text.now c.args.at (InWord c.args.at) c.requires (c.in-Word.ensures c.args.at) ∙ c.word_end.ensures.word c.args.at,
  omega (arith, c.word_end.ensures.forward),
  c.word_end.ensures.within,
)
