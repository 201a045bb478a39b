use Rattle.std.proofs.Common.{rules}
use Rattle.isle_reading.proofs.Steps.{then_got, done_got, then_refuses, bind_refuses, passed}
use Rattle.isle_grammar.specs.Reading.{read_parts}
use Rattle.isle_syntax.proofs.definition.parts.Goals as goal

pub returns-in_err-term : goal.returns-in_err-term
unfolding read_parts
returns-in_err-term c = passed _ _ _ _ _ c.from_residual-in_err-term.ensures.1 (then_refuses _ _ _ _ _ _ c.in_ok-open.ensures (bind_refuses _ _ _ _ c.in_err-term.ensures))

pub returns-in_err-args : goal.returns-in_err-args
unfolding read_parts
returns-in_err-args c = passed _ _ _ _ _ c.from_residual-in_err-args.ensures.1 (then_refuses _ _ _ _ _ _ c.in_ok-open.ensures (then_refuses _ _ _ _ _ _ c.in_ok-term.ensures (bind_refuses _ _ _ _ c.in_err-args.ensures)))

pub returns : goal.returns
unfolding read_parts
returns c = then_got _ _ _ _ _ _ c.in_ok-open.ensures (then_got _ _ _ _ _ _ c.in_ok-term.ensures (then_got _ _ _ _ _ _ c.in_ok-args.ensures (search (rules, done_got))))
