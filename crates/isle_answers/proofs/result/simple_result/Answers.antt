use Rattle.isle_reading.proofs.Steps.{then_got, done_got}
use Rattle.isle_answers.specs.Reading.{read_simple_result}
use Rattle.isle_answers.proofs.result.simple_result.Goals as goal

pub returns : goal.returns
unfolding read_simple_result
returns c = then_got _ _ _ _ _ _ c.in_ok-simple.ensures (done_got _ _)
