use Rattle.isle_reading.proofs.Steps.{passed, then_comes, then_refuses, bind_refuses}
use Rattle.isle_tables.specs.Reading.{read_imm}
use Rattle.isle_tables.proofs.formats.imm.Goals as goal

pub returns-in_err-keyword : goal.returns-in_err-keyword
unfolding read_imm
returns-in_err-keyword c = passed _ _ _ _ _ c.from_residual-in_err-keyword.ensures.1 (then_refuses _ _ _ _ _ _ c.in_ok-open.ensures (bind_refuses _ _ _ _ c.in_err-keyword.ensures))

pub returns : goal.returns
unfolding read_imm
returns c = then_comes _ _ _ _ _ _ _ _ c.in_ok-open.ensures (then_comes _ _ _ _ _ _ _ _ c.in_ok-keyword.ensures c.imm_after.ensures)
