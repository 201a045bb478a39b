use Rattle.std.proofs.Common.{rules}
use Rattle.isle_reading.proofs.Steps.{passed, then_got, done_got, then_refuses, bind_refuses}
use Rattle.isle_tables.specs.Reading.{read_x64_flags}
use Rattle.isle_tables.proofs.assembler.x64_flags.Goals as goal

pub returns-in_err-writes : goal.returns-in_err-writes
unfolding read_x64_flags
returns-in_err-writes c = passed _ _ _ _ _ c.from_residual-in_err-writes.ensures.1 (then_refuses _ _ _ _ _ _ c.in_ok-reads.ensures (bind_refuses _ _ _ _ c.in_err-writes.ensures))

pub returns-in_err-trap : goal.returns-in_err-trap
unfolding read_x64_flags
returns-in_err-trap c = passed _ _ _ _ _ c.from_residual-in_err-trap.ensures.1 (then_refuses _ _ _ _ _ _ c.in_ok-reads.ensures (then_refuses _ _ _ _ _ _ c.in_ok-writes.ensures (bind_refuses _ _ _ _ c.in_err-trap.ensures)))

pub returns : goal.returns
unfolding read_x64_flags
returns c = then_got _ _ _ _ _ _ c.in_ok-reads.ensures (then_got _ _ _ _ _ _ c.in_ok-writes.ensures (then_got _ _ _ _ _ _ c.in_ok-trap.ensures (search (rules, done_got))))
