use Rattle.std.proofs.Common.{rules}
use Rattle.isle_reading.proofs.Steps.{passed, then_got, done_got, then_refuses, bind_refuses}
use Rattle.isle_tables.specs.Reading.{read_field}
use Rattle.isle_tables.proofs.operations.field.Goals as goal

pub returns-in_err-name : goal.returns-in_err-name
unfolding read_field
returns-in_err-name c = passed _ _ _ _ _ c.from_residual-in_err-name.ensures.1 (then_refuses _ _ _ _ _ _ c.in_ok-open.ensures (bind_refuses _ _ _ _ c.in_err-name.ensures))

pub returns-in_err-rust_type : goal.returns-in_err-rust_type
unfolding read_field
returns-in_err-rust_type c = passed _ _ _ _ _ c.from_residual-in_err-rust_type.ensures.1 (then_refuses _ _ _ _ _ _ c.in_ok-open.ensures (then_refuses _ _ _ _ _ _ c.in_ok-name.ensures (bind_refuses _ _ _ _ c.in_err-rust_type.ensures)))

pub returns-in_err-close : goal.returns-in_err-close
unfolding read_field
returns-in_err-close c = passed _ _ _ _ _ c.from_residual-in_err-close.ensures.1 (then_refuses _ _ _ _ _ _ c.in_ok-open.ensures (then_refuses _ _ _ _ _ _ c.in_ok-name.ensures (then_refuses _ _ _ _ _ _ c.in_ok-rust_type.ensures (bind_refuses _ _ _ _ c.in_err-close.ensures))))

pub returns : goal.returns
unfolding read_field
returns c = then_got _ _ _ _ _ _ c.in_ok-open.ensures (then_got _ _ _ _ _ _ c.in_ok-name.ensures (then_got _ _ _ _ _ _ c.in_ok-rust_type.ensures (then_got _ _ _ _ _ _ c.in_ok-close.ensures (search (rules, done_got)))))
