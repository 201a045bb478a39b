use Rattle.std.proofs.Common.{rules}
use Rattle.isle_reading.proofs.Steps.{passed, then_got, done_got, then_refuses, bind_refuses}
use Rattle.isle_tables.specs.Reading.{read_effects}
use Rattle.isle_tables.proofs.instructions.effects.Goals as goal

pub returns-in_err-trap : goal.returns-in_err-trap
unfolding read_effects
returns-in_err-trap c = passed _ _ _ _ _ c.from_residual-in_err-trap.ensures.1 (then_refuses _ _ _ _ _ _ c.in_ok-results.ensures (bind_refuses _ _ _ _ c.in_err-trap.ensures))

pub returns-in_err-effect : goal.returns-in_err-effect
unfolding read_effects
returns-in_err-effect c = passed _ _ _ _ _ c.from_residual-in_err-effect.ensures.1 (then_refuses _ _ _ _ _ _ c.in_ok-results.ensures (then_refuses _ _ _ _ _ _ c.in_ok-trap.ensures (bind_refuses _ _ _ _ c.in_err-effect.ensures)))

pub returns-in_err-close : goal.returns-in_err-close
unfolding read_effects
returns-in_err-close c = passed _ _ _ _ _ c.from_residual-in_err-close.ensures.1 (then_refuses _ _ _ _ _ _ c.in_ok-results.ensures (then_refuses _ _ _ _ _ _ c.in_ok-trap.ensures (then_refuses _ _ _ _ _ _ c.in_ok-effect.ensures (bind_refuses _ _ _ _ c.in_err-close.ensures))))

pub returns : goal.returns
unfolding read_effects
returns c = then_got _ _ _ _ _ _ c.in_ok-results.ensures (then_got _ _ _ _ _ _ c.in_ok-trap.ensures (then_got _ _ _ _ _ _ c.in_ok-effect.ensures (then_got _ _ _ _ _ _ c.in_ok-close.ensures (search (rules, done_got)))))
