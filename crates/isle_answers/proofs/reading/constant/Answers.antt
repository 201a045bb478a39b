use Rattle.isle_reading.proofs.Steps.{passed, then_got, done_got, then_refuses, bind_refuses}
use Rattle.isle_answers.specs.Reading.{read_const}
use Rattle.isle_answers.proofs.reading.constant.Goals as goal

pub returns-in_err-value : goal.returns-in_err-value
unfolding read_const
returns-in_err-value c = passed _ _ _ _ _ c.from_residual-in_err-value.ensures.1 (then_refuses _ _ _ _ _ _ c.in_ok-name.ensures (bind_refuses _ _ _ _ c.in_err-value.ensures))

pub returns-in_err-close : goal.returns-in_err-close
unfolding read_const
returns-in_err-close c = passed _ _ _ _ _ c.from_residual-in_err-close.ensures.1 (then_refuses _ _ _ _ _ _ c.in_ok-name.ensures (then_refuses _ _ _ _ _ _ c.in_ok-value.ensures (bind_refuses _ _ _ _ c.in_err-close.ensures)))

pub returns : goal.returns
unfolding read_const
returns c = then_got _ _ _ _ _ _ c.in_ok-name.ensures (then_got _ _ _ _ _ _ c.in_ok-value.ensures (then_got _ _ _ _ _ _ c.in_ok-close.ensures (done_got _ _)))
