use Rattle.std.proofs.Common.{rules}
use Rattle.isle_reading.proofs.Steps.{then_got, done_got, then_refuses, bind_refuses, passed}
use Rattle.isle_grammar.specs.Reading.{read_infallible}
use Rattle.isle_syntax.proofs.externs.infallible.Goals as goal

pub returns-in_err-close : goal.returns-in_err-close
unfolding read_infallible
returns-in_err-close c = passed _ _ _ _ _ c.from_residual-in_err-close.ensures.1 (then_refuses _ _ _ _ _ _ c.in_ok-func.ensures (bind_refuses _ _ _ _ c.in_err-close.ensures))

pub returns : goal.returns
unfolding read_infallible
returns c = then_got _ _ _ _ _ _ c.in_ok-func.ensures (then_got _ _ _ _ _ _ c.in_ok-close.ensures (search (rules, done_got)))
