use Rattle.std.proofs.Common.{rules}
use Rattle.isle_reading.proofs.Steps.{passed, then_got, done_got, then_refuses, bind_refuses}
use Rattle.isle_tables.specs.Reading.{read_xop}
use Rattle.isle_tables.proofs.assembler.xop.Goals as goal

pub returns-in_err-location : goal.returns-in_err-location
unfolding read_xop
returns-in_err-location c = passed _ _ _ _ _ c.from_residual-in_err-location.ensures.1 (then_refuses _ _ _ _ _ _ c.in_ok-open.ensures (bind_refuses _ _ _ _ c.in_err-location.ensures))

pub returns-in_err-form : goal.returns-in_err-form
unfolding read_xop
returns-in_err-form c = passed _ _ _ _ _ c.from_residual-in_err-form.ensures.1 (then_refuses _ _ _ _ _ _ c.in_ok-open.ensures (then_refuses _ _ _ _ _ _ c.in_ok-location.ensures (bind_refuses _ _ _ _ c.in_err-form.ensures)))

pub returns-in_err-flags : goal.returns-in_err-flags
unfolding read_xop
returns-in_err-flags c = passed _ _ _ _ _ c.from_residual-in_err-flags.ensures.1 (then_refuses _ _ _ _ _ _ c.in_ok-open.ensures (then_refuses _ _ _ _ _ _ c.in_ok-location.ensures (then_refuses _ _ _ _ _ _ c.in_ok-form.ensures (bind_refuses _ _ _ _ c.in_err-flags.ensures))))

pub returns : goal.returns
unfolding read_xop
returns c = then_got _ _ _ _ _ _ c.in_ok-open.ensures (then_got _ _ _ _ _ _ c.in_ok-location.ensures (then_got _ _ _ _ _ _ c.in_ok-form.ensures (then_got _ _ _ _ _ _ c.in_ok-flags.ensures (search (rules, done_got)))))
