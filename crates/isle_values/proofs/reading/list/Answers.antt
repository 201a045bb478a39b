use Rattle.isle_reading.proofs.Steps.{then_comes}
use Rattle.isle_values.specs.Reading.{read_list}
use Rattle.isle_values.proofs.reading.list.Goals as goal

pub returns : goal.returns
unfolding read_list
returns c = then_comes _ _ _ _ _ _ _ _ c.in_ok-open.ensures c.parts.ensures
