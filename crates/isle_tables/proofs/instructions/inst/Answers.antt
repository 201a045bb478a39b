use Rattle.std.proofs.Common.{rules}
use Rattle.isle_reading.proofs.Steps.{passed, then_got, done_got, then_refuses, bind_refuses}
use Rattle.isle_tables.specs.Reading.{read_inst}
use Rattle.isle_tables.proofs.instructions.inst.Goals as goal

pub returns-in_err-opnds : goal.returns-in_err-opnds
unfolding read_inst
returns-in_err-opnds c = passed _ _ _ _ _ c.from_residual-in_err-opnds.ensures.1 (then_refuses _ _ _ _ _ _ c.in_ok-name.ensures (bind_refuses _ _ _ _ c.in_err-opnds.ensures))

pub returns-in_err-effects : goal.returns-in_err-effects
unfolding read_inst
returns-in_err-effects c = passed _ _ _ _ _ c.from_residual-in_err-effects.ensures.1 (then_refuses _ _ _ _ _ _ c.in_ok-name.ensures (then_refuses _ _ _ _ _ _ c.in_ok-opnds.ensures (bind_refuses _ _ _ _ c.in_err-effects.ensures)))

pub returns : goal.returns
unfolding read_inst
returns c = then_got _ _ _ _ _ _ c.in_ok-name.ensures (then_got _ _ _ _ _ _ c.in_ok-opnds.ensures (then_got _ _ _ _ _ _ c.in_ok-effects.ensures (search (rules, done_got))))
