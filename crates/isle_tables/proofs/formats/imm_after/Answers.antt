use Rattle.std.proofs.Common.{rules}
use Rattle.isle_reading.proofs.Steps.{passed, then_got, done_got, then_refuses, bind_refuses}
use Rattle.isle_tables.specs.Reading.{read_imm_after}
use Rattle.isle_tables.proofs.formats.imm_after.Goals as goal

pub returns-in_err-rust_type : goal.returns-in_err-rust_type
unfolding read_imm_after
returns-in_err-rust_type c = passed _ _ _ _ _ c.from_residual-in_err-rust_type.ensures.1 (then_refuses _ _ _ _ _ _ c.in_ok-member.ensures (bind_refuses _ _ _ _ c.in_err-rust_type.ensures))

pub returns-in_err-values : goal.returns-in_err-values
unfolding read_imm_after
returns-in_err-values c = passed _ _ _ _ _ c.from_residual-in_err-values.ensures.1 (then_refuses _ _ _ _ _ _ c.in_ok-member.ensures (then_refuses _ _ _ _ _ _ c.in_ok-rust_type.ensures (bind_refuses _ _ _ _ c.in_err-values.ensures)))

pub returns : goal.returns
unfolding read_imm_after
returns c = then_got _ _ _ _ _ _ c.in_ok-member.ensures (then_got _ _ _ _ _ _ c.in_ok-rust_type.ensures (then_got _ _ _ _ _ _ c.in_ok-values.ensures (search (rules, done_got))))
