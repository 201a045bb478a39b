use Rattle.std.proofs.Common.{rules}
use Rattle.isle_reading.proofs.Steps.{then_got, done_got}
use Rattle.isle_grammar.specs.Reading.{read_fallible}
use Rattle.isle_syntax.proofs.externs.fallible.Goals as goal

pub returns : goal.returns
unfolding read_fallible
returns c = then_got _ _ _ _ _ _ c.in_ok-close.ensures (search (rules, done_got))
