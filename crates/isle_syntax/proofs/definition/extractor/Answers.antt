use Rattle.std.proofs.Common.{rules}
use Rattle.isle_reading.proofs.Steps.{then_got, done_got, then_refuses, bind_refuses, passed}
use Rattle.isle_grammar.specs.Reading.{read_extractor}
use Rattle.isle_syntax.proofs.definition.extractor.Goals as goal

pub returns-in_err-term : goal.returns-in_err-term
unfolding read_extractor
returns-in_err-term c = passed _ _ _ _ _ c.from_residual-in_err-term.ensures.1 (then_refuses _ _ _ _ _ _ c.in_ok-open.ensures (bind_refuses _ _ _ _ c.in_err-term.ensures))

pub returns-in_err-params : goal.returns-in_err-params
unfolding read_extractor
returns-in_err-params c = passed _ _ _ _ _ c.from_residual-in_err-params.ensures.1 (then_refuses _ _ _ _ _ _ c.in_ok-open.ensures (then_refuses _ _ _ _ _ _ c.in_ok-term.ensures (bind_refuses _ _ _ _ c.in_err-params.ensures)))

pub returns-in_err-template : goal.returns-in_err-template
unfolding read_extractor
returns-in_err-template c = passed _ _ _ _ _ c.from_residual-in_err-template.ensures.1 (then_refuses _ _ _ _ _ _ c.in_ok-open.ensures (then_refuses _ _ _ _ _ _ c.in_ok-term.ensures (then_refuses _ _ _ _ _ _ c.in_ok-params.ensures (bind_refuses _ _ _ _ c.in_err-template.ensures))))

pub returns-in_err-close : goal.returns-in_err-close
unfolding read_extractor
returns-in_err-close c = passed _ _ _ _ _ c.from_residual-in_err-close.ensures.1 (then_refuses _ _ _ _ _ _ c.in_ok-open.ensures (then_refuses _ _ _ _ _ _ c.in_ok-term.ensures (then_refuses _ _ _ _ _ _ c.in_ok-params.ensures (then_refuses _ _ _ _ _ _ c.in_ok-template.ensures (bind_refuses _ _ _ _ c.in_err-close.ensures)))))

pub returns : goal.returns
unfolding read_extractor
returns c = then_got _ _ _ _ _ _ c.in_ok-open.ensures (then_got _ _ _ _ _ _ c.in_ok-term.ensures (then_got _ _ _ _ _ _ c.in_ok-params.ensures (then_got _ _ _ _ _ _ c.in_ok-template.ensures (then_got _ _ _ _ _ _ c.in_ok-close.ensures (search (rules, done_got))))))
