use Rattle.std.proofs.Common.{rules}
use Rattle.isle_reading.proofs.Steps.{passed, then_got, done_got, then_refuses, bind_refuses}
use Rattle.isle_answers.specs.Reading.{read_turned}
use Rattle.isle_answers.proofs.reading.turned.Goals as goal

pub returns-in_err-turns : goal.returns-in_err-turns
unfolding read_turned
returns-in_err-turns c = passed _ _ _ _ _ c.from_residual-in_err-turns.ensures.1 (then_refuses _ _ _ _ _ _ c.in_ok-callee.ensures (bind_refuses _ _ _ _ c.in_err-turns.ensures))

pub returns : goal.returns
unfolding read_turned
returns c = then_got _ _ _ _ _ _ c.in_ok-callee.ensures (then_got _ _ _ _ _ _ c.in_ok-turns.ensures (search (rules, done_got)))
