use Rattle.isle_reading.proofs.Steps.{passed, then_comes, then_refuses, bind_refuses}
use Rattle.isle_tables.specs.Reading.{read_shape, read_shape_after}
use Rattle.isle_tables.proofs.operations.shape.Goals as goal

pub returns-in_err-is_binary : goal.returns-in_err-is_binary
unfolding read_shape
returns-in_err-is_binary c = passed _ _ _ _ _ c.from_residual-in_err-is_binary.ensures.1 (then_refuses _ _ _ _ _ _ c.in_ok-open.ensures (bind_refuses _ _ _ _ c.in_err-is_binary.ensures))

pub returns-then-is_binary : goal.returns-then-is_binary
unfolding read_shape read_shape_after
returns-then-is_binary c = then_comes _ _ _ _ _ _ _ _ c.in_ok-open.ensures (then_comes _ _ _ _ _ _ _ _ c.in_ok-is_binary.ensures (rw c.if-is_binary.true c.binary.ensures))

pub returns-else-is_binary : goal.returns-else-is_binary
unfolding read_shape read_shape_after
returns-else-is_binary c = then_comes _ _ _ _ _ _ _ _ c.in_ok-open.ensures (then_comes _ _ _ _ _ _ _ _ c.in_ok-is_binary.ensures (rw c.if-is_binary.false c.upper.ensures))
