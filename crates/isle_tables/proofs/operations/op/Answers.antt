use Rattle.std.proofs.Common.{rules}
use Rattle.isle_reading.proofs.Steps.{passed, then_got, done_got, then_refuses, bind_refuses}
use Rattle.isle_tables.specs.Reading.{read_op}
use Rattle.isle_tables.proofs.operations.op.Goals as goal

pub returns-in_err-name : goal.returns-in_err-name
unfolding read_op
returns-in_err-name c = passed _ _ _ _ _ c.from_residual-in_err-name.ensures.1 (then_refuses _ _ _ _ _ _ c.in_ok-snake_name.ensures (bind_refuses _ _ _ _ c.in_err-name.ensures))

pub returns-in_err-fields : goal.returns-in_err-fields
unfolding read_op
returns-in_err-fields c = passed _ _ _ _ _ c.from_residual-in_err-fields.ensures.1 (then_refuses _ _ _ _ _ _ c.in_ok-snake_name.ensures (then_refuses _ _ _ _ _ _ c.in_ok-name.ensures (bind_refuses _ _ _ _ c.in_err-fields.ensures)))

pub returns : goal.returns
unfolding read_op
returns c = then_got _ _ _ _ _ _ c.in_ok-snake_name.ensures (then_got _ _ _ _ _ _ c.in_ok-name.ensures (then_got _ _ _ _ _ _ c.in_ok-fields.ensures (search (rules, done_got))))
