use Rattle.std.proofs.Common.{rules}
use Rattle.isle_reading.proofs.Steps.{then_got, done_got}
use Rattle.isle_grammar.specs.Reading.{read_passed}
use Rattle.isle_syntax.proofs.definition.passed.Goals as goal

pub returns : goal.returns
unfolding read_passed
returns c = then_got _ _ _ _ _ _ c.in_ok-skip_passed.ensures.1 (search (rules, done_got))
