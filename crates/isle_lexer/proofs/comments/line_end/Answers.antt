use Rattle.isle_lexer.proofs.Lines.{line_behind, line_to_end}
use Rattle.isle_lexer.proofs.comments.line_end.Goals as goal

pub returns-in-Some-clause-line : goal.returns-in-Some-clause-line
returns-in-Some-clause-line c = line_behind c.args.text.now c.args.at c.requires c.in-Some.feed c.in-Some.ensures

pub returns-in-None-clause-line : goal.returns-in-None-clause-line
returns-in-None-clause-line c = line_to_end c.args.text.now c.args.at c.requires c.in-None.ensures
