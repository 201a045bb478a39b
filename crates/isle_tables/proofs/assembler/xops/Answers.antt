use Rattle.isle_reading.proofs.Steps.{then_comes}
use Rattle.isle_tables.specs.Reading.{read_xops}
use Rattle.isle_tables.proofs.assembler.xops.Goals as goal

pub returns : goal.returns
unfolding read_xops
returns c = then_comes _ _ _ _ _ _ _ _ c.in_ok-open.ensures c.xop_list.ensures
