use Rattle.std.proofs.Common.{rules}
use Rattle.isle_reading.proofs.Steps.{then_got, done_got, then_refuses, bind_refuses, passed}
use Rattle.isle_grammar.specs.Reading.{read_type}
use Rattle.isle_syntax.proofs.definition.type_decl.Goals as goal

pub returns-in_err-marks : goal.returns-in_err-marks
unfolding read_type
returns-in_err-marks c = passed _ _ _ _ _ c.from_residual-in_err-marks.ensures.1 (then_refuses _ _ _ _ _ _ c.in_ok-name.ensures (bind_refuses _ _ _ _ c.in_err-marks.ensures))

pub returns-in_err-body : goal.returns-in_err-body
unfolding read_type
returns-in_err-body c = passed _ _ _ _ _ c.from_residual-in_err-body.ensures.1 (then_refuses _ _ _ _ _ _ c.in_ok-name.ensures (then_refuses _ _ _ _ _ _ c.in_ok-marks.ensures (bind_refuses _ _ _ _ c.in_err-body.ensures)))

pub returns-in_err-close : goal.returns-in_err-close
unfolding read_type
returns-in_err-close c = passed _ _ _ _ _ c.from_residual-in_err-close.ensures.1 (then_refuses _ _ _ _ _ _ c.in_ok-name.ensures (then_refuses _ _ _ _ _ _ c.in_ok-marks.ensures (then_refuses _ _ _ _ _ _ c.in_ok-body.ensures (bind_refuses _ _ _ _ c.in_err-close.ensures))))

pub returns : goal.returns
unfolding read_type
returns c = then_got _ _ _ _ _ _ c.in_ok-name.ensures (then_got _ _ _ _ _ _ c.in_ok-marks.ensures (then_got _ _ _ _ _ _ c.in_ok-body.ensures (then_got _ _ _ _ _ _ c.in_ok-close.ensures (search (rules, done_got)))))
