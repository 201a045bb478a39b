use Rattle.std.proofs.Common.{rules}
use Rattle.isle_reading.proofs.Steps.{then_got, done_got, then_refuses, bind_refuses, passed}
use Rattle.isle_grammar.specs.Reading.{read_convert}
use Rattle.isle_syntax.proofs.definition.convert.Goals as goal

pub returns-in_err-to : goal.returns-in_err-to
unfolding read_convert
returns-in_err-to c = passed _ _ _ _ _ c.from_residual-in_err-to.ensures.1 (then_refuses _ _ _ _ _ _ c.in_ok-from.ensures (bind_refuses _ _ _ _ c.in_err-to.ensures))

pub returns-in_err-term : goal.returns-in_err-term
unfolding read_convert
returns-in_err-term c = passed _ _ _ _ _ c.from_residual-in_err-term.ensures.1 (then_refuses _ _ _ _ _ _ c.in_ok-from.ensures (then_refuses _ _ _ _ _ _ c.in_ok-to.ensures (bind_refuses _ _ _ _ c.in_err-term.ensures)))

pub returns-in_err-close : goal.returns-in_err-close
unfolding read_convert
returns-in_err-close c = passed _ _ _ _ _ c.from_residual-in_err-close.ensures.1 (then_refuses _ _ _ _ _ _ c.in_ok-from.ensures (then_refuses _ _ _ _ _ _ c.in_ok-to.ensures (then_refuses _ _ _ _ _ _ c.in_ok-term.ensures (bind_refuses _ _ _ _ c.in_err-close.ensures))))

pub returns : goal.returns
unfolding read_convert
returns c = then_got _ _ _ _ _ _ c.in_ok-from.ensures (then_got _ _ _ _ _ _ c.in_ok-to.ensures (then_got _ _ _ _ _ _ c.in_ok-term.ensures (then_got _ _ _ _ _ _ c.in_ok-close.ensures (search (rules, done_got)))))
