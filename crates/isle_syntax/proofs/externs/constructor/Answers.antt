use Rattle.std.proofs.Common.{rules}
use Rattle.isle_reading.proofs.Steps.{then_got, done_got, then_refuses, bind_refuses, passed}
use Rattle.isle_grammar.specs.Reading.{read_constructor}
use Rattle.isle_syntax.proofs.externs.constructor.Goals as goal

pub returns-in_err-func : goal.returns-in_err-func
unfolding read_constructor
returns-in_err-func c = passed _ _ _ _ _ c.from_residual-in_err-func.ensures.1 (then_refuses _ _ _ _ _ _ c.in_ok-term.ensures (bind_refuses _ _ _ _ c.in_err-func.ensures))

pub returns-in_err-close : goal.returns-in_err-close
unfolding read_constructor
returns-in_err-close c = passed _ _ _ _ _ c.from_residual-in_err-close.ensures.1 (then_refuses _ _ _ _ _ _ c.in_ok-term.ensures (then_refuses _ _ _ _ _ _ c.in_ok-func.ensures (bind_refuses _ _ _ _ c.in_err-close.ensures)))

pub returns : goal.returns
unfolding read_constructor
returns c = then_got _ _ _ _ _ _ c.in_ok-term.ensures (then_got _ _ _ _ _ _ c.in_ok-func.ensures (then_got _ _ _ _ _ _ c.in_ok-close.ensures (search (rules, done_got))))
