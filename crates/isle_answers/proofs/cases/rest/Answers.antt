use Rattle.isle_reading.proofs.Steps.{passed, then_got, done_got, then_refuses, bind_refuses}
use Rattle.isle_answers.specs.Reading.{read_rest}
use Rattle.isle_answers.proofs.cases.rest.Goals as goal

pub returns-in_err-close : goal.returns-in_err-close
unfolding read_rest
returns-in_err-close c = passed _ _ _ _ _ c.from_residual-in_err-close.ensures.1 (then_refuses _ _ _ _ _ _ c.in_ok-found.ensures (bind_refuses _ _ _ _ c.in_err-close.ensures))

pub returns-in_err-close-2 : goal.returns-in_err-close-2
unfolding read_rest
returns-in_err-close-2 c = passed _ _ _ _ _ c.from_residual-in_err-close-2.ensures.1 (then_refuses _ _ _ _ _ _ c.in_ok-found.ensures (then_refuses _ _ _ _ _ _ c.in_ok-close.ensures (bind_refuses _ _ _ _ c.in_err-close-2.ensures)))

pub returns : goal.returns
unfolding read_rest
returns c = then_got _ _ _ _ _ _ c.in_ok-found.ensures (then_got _ _ _ _ _ _ c.in_ok-close.ensures (then_got _ _ _ _ _ _ c.in_ok-close-2.ensures (done_got _ _)))
