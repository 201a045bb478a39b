use Rattle.std.proofs.Common.{rules}
use Rattle.isle_reading.proofs.Steps.{passed, then_got, done_got, then_refuses, bind_refuses}
use Rattle.isle_tables.specs.Reading.{read_xop_flags}
use Rattle.isle_tables.proofs.assembler.xop_flags.Goals as goal

pub returns-in_err-align : goal.returns-in_err-align
unfolding read_xop_flags
returns-in_err-align c = passed _ _ _ _ _ c.from_residual-in_err-align.ensures.1 (then_refuses _ _ _ _ _ _ c.in_ok-signed.ensures (bind_refuses _ _ _ _ c.in_err-align.ensures))

pub returns-in_err-close : goal.returns-in_err-close
unfolding read_xop_flags
returns-in_err-close c = passed _ _ _ _ _ c.from_residual-in_err-close.ensures.1 (then_refuses _ _ _ _ _ _ c.in_ok-signed.ensures (then_refuses _ _ _ _ _ _ c.in_ok-align.ensures (bind_refuses _ _ _ _ c.in_err-close.ensures)))

pub returns : goal.returns
unfolding read_xop_flags
returns c = then_got _ _ _ _ _ _ c.in_ok-signed.ensures (then_got _ _ _ _ _ _ c.in_ok-align.ensures (then_got _ _ _ _ _ _ c.in_ok-close.ensures (search (rules, done_got))))
