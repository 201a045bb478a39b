use Rattle.isle_reading.proofs.Steps.{passed, then_got, done_got, then_refuses, bind_refuses}
use Rattle.isle_answers.specs.Reading.{read_held}
use Rattle.isle_answers.proofs.reading.held_form.Goals as goal

pub returns-in_err-close : goal.returns-in_err-close
unfolding read_held
returns-in_err-close c = passed _ _ _ _ _ c.from_residual-in_err-close.ensures.1 (then_refuses _ _ _ _ _ _ c.in_ok-count.ensures (bind_refuses _ _ _ _ c.in_err-close.ensures))

pub returns : goal.returns
unfolding read_held
returns c = then_got _ _ _ _ _ _ c.in_ok-count.ensures (then_got _ _ _ _ _ _ c.in_ok-close.ensures (done_got _ _))
