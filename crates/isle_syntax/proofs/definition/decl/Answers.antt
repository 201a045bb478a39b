use Rattle.isle_reading.proofs.Steps.{then_comes}
use Rattle.isle_grammar.specs.Reading.{read_decl}
use Rattle.isle_syntax.proofs.definition.decl.Goals as goal

pub returns : goal.returns
unfolding read_decl
returns c = then_comes _ _ _ _ _ _ _ _ c.in_ok-flags.ensures (c.declared.ensures)
