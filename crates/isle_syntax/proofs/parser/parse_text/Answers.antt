use Rattle.std.proofs.Common.{subst, length}
use Rattle.isle_reading.specs.Places.{IsFaultAt}
use Rattle.isle_grammar.specs.Spelling.{IsFile, bad_tokens}
use Rattle.isle_syntax.proofs.parser.parse_text.Goals as goal

pub returns-in-Ok-clause-fault : goal.returns-in-Ok-clause-fault
returns-in-Ok-clause-fault c = λ at m e.
    let x = c.of_tokens.ensures.fault at m e in
    (x.0, bad_tokens c.in-Ok.ensures.closed (subst (λ ts. IsFaultAt (IsFile c.args.file) ts (length c.args.text.now) at.offset) c.in-Ok.ensures.tokens x.1))
