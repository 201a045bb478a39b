use Rattle.isle_reading.proofs.Steps.{passed, then_comes, then_refuses, bind_refuses}
use Rattle.isle_tables.specs.Reading.{read_some_parts, read_parts_after}
use Rattle.isle_tables.proofs.formats.some_parts.Goals as goal

pub returns-in_err-is_typevar : goal.returns-in_err-is_typevar
unfolding read_some_parts
returns-in_err-is_typevar c = passed _ _ _ _ _ c.from_residual-in_err-is_typevar.ensures.1 (then_refuses _ _ _ _ _ _ c.in_ok-open.ensures (bind_refuses _ _ _ _ c.in_err-is_typevar.ensures))

pub returns-then-is_typevar : goal.returns-then-is_typevar
unfolding read_some_parts read_parts_after
returns-then-is_typevar c = then_comes _ _ _ _ _ _ _ _ c.in_ok-open.ensures (then_comes _ _ _ _ _ _ _ _ c.in_ok-is_typevar.ensures (rw c.if-is_typevar.true c.typevar_parts.ensures))

pub returns-else-is_typevar : goal.returns-else-is_typevar
unfolding read_some_parts read_parts_after
returns-else-is_typevar c = then_comes _ _ _ _ _ _ _ _ c.in_ok-open.ensures (then_comes _ _ _ _ _ _ _ _ c.in_ok-is_typevar.ensures (rw c.if-is_typevar.false c.imm_parts.ensures))
