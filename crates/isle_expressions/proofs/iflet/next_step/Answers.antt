use Rattle.isle_reading.proofs.Steps.{then_comes}
use Rattle.isle_grammar.specs.Reading.{read_step}
use Rattle.isle_expressions.proofs.iflet.next_step.Goals as goal

pub returns : goal.returns
unfolding read_step
returns c = then_comes _ _ _ _ _ _ _ _ c.in_ok-form.ensures c.settled.ensures
