use Rattle.isle_reading.proofs.Steps.{then_comes}
use Rattle.isle_grammar.specs.Reading.{read_extern}
use Rattle.isle_syntax.proofs.externs.external.Goals as goal

pub returns : goal.returns
unfolding read_extern
returns c = then_comes _ _ _ _ _ _ _ _ c.in_ok-head.ensures (c.extern_behind.ensures)
