use Rattle.isle_reading.proofs.Steps.{then_comes, then_refuses, bind_refuses, passed}
use Rattle.isle_grammar.specs.Reading.{read_iflet}
use Rattle.isle_expressions.proofs.iflet.condition.Goals as goal

pub returns-in_err-head : goal.returns-in_err-head
unfolding read_iflet
returns-in_err-head c = passed _ _ _ _ _ c.from_residual-in_err-head.ensures.1 (then_refuses _ _ _ _ _ _ c.in_ok-open.ensures (bind_refuses _ _ _ _ c.in_err-head.ensures))

pub returns : goal.returns
unfolding read_iflet
returns c = then_comes _ _ _ _ _ _ _ _ c.in_ok-open.ensures (then_comes _ _ _ _ _ _ _ _ c.in_ok-head.ensures (c.if_behind.ensures))
