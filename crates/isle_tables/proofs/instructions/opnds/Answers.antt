use Rattle.isle_reading.proofs.Steps.{passed, then_comes, then_refuses, bind_refuses}
use Rattle.isle_tables.specs.Reading.{read_opnds}
use Rattle.isle_tables.proofs.instructions.opnds.Goals as goal

pub returns-in_err-keyword : goal.returns-in_err-keyword
unfolding read_opnds
returns-in_err-keyword c = passed _ _ _ _ _ c.from_residual-in_err-keyword.ensures.1 (then_refuses _ _ _ _ _ _ c.in_ok-open.ensures (bind_refuses _ _ _ _ c.in_err-keyword.ensures))

pub returns : goal.returns
unfolding read_opnds
returns c = then_comes _ _ _ _ _ _ _ _ c.in_ok-open.ensures (then_comes _ _ _ _ _ _ _ _ c.in_ok-keyword.ensures c.opnd_list.ensures)
