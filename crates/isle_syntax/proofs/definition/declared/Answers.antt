use Rattle.std.proofs.Common.{rules}
use Rattle.isle_reading.proofs.Steps.{then_got, done_got, then_refuses, bind_refuses, passed}
use Rattle.isle_grammar.specs.Reading.{read_declared}
use Rattle.isle_syntax.proofs.definition.declared.Goals as goal

pub returns-in_err-open : goal.returns-in_err-open
unfolding read_declared
returns-in_err-open c = passed _ _ _ _ _ c.from_residual-in_err-open.ensures.1 (then_refuses _ _ _ _ _ _ c.in_ok-term.ensures (bind_refuses _ _ _ _ c.in_err-open.ensures))

pub returns-in_err-args : goal.returns-in_err-args
unfolding read_declared
returns-in_err-args c = passed _ _ _ _ _ c.from_residual-in_err-args.ensures.1 (then_refuses _ _ _ _ _ _ c.in_ok-term.ensures (then_refuses _ _ _ _ _ _ c.in_ok-open.ensures (bind_refuses _ _ _ _ c.in_err-args.ensures)))

pub returns-in_err-ret : goal.returns-in_err-ret
unfolding read_declared
returns-in_err-ret c = passed _ _ _ _ _ c.from_residual-in_err-ret.ensures.1 (then_refuses _ _ _ _ _ _ c.in_ok-term.ensures (then_refuses _ _ _ _ _ _ c.in_ok-open.ensures (then_refuses _ _ _ _ _ _ c.in_ok-args.ensures (bind_refuses _ _ _ _ c.in_err-ret.ensures))))

pub returns-in_err-close : goal.returns-in_err-close
unfolding read_declared
returns-in_err-close c = passed _ _ _ _ _ c.from_residual-in_err-close.ensures.1 (then_refuses _ _ _ _ _ _ c.in_ok-term.ensures (then_refuses _ _ _ _ _ _ c.in_ok-open.ensures (then_refuses _ _ _ _ _ _ c.in_ok-args.ensures (then_refuses _ _ _ _ _ _ c.in_ok-ret.ensures (bind_refuses _ _ _ _ c.in_err-close.ensures)))))

pub returns : goal.returns
unfolding read_declared
returns c = then_got _ _ _ _ _ _ c.in_ok-term.ensures (then_got _ _ _ _ _ _ c.in_ok-open.ensures (then_got _ _ _ _ _ _ c.in_ok-args.ensures (then_got _ _ _ _ _ _ c.in_ok-ret.ensures (then_got _ _ _ _ _ _ c.in_ok-close.ensures (search (rules, done_got))))))
