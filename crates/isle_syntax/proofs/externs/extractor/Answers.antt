use Rattle.isle_reading.proofs.Steps.{then_comes, then_refuses, bind_refuses, passed}
use Rattle.isle_grammar.specs.Reading.{read_extractor_function}
use Rattle.isle_syntax.proofs.externs.extractor.Goals as goal

pub returns-in_err-func : goal.returns-in_err-func
unfolding read_extractor_function
returns-in_err-func c = passed _ _ _ _ _ c.from_residual-in_err-func.ensures.1 (then_refuses _ _ _ _ _ _ c.in_ok-term.ensures (bind_refuses _ _ _ _ c.in_err-func.ensures))

pub returns : goal.returns
unfolding read_extractor_function
returns c = then_comes _ _ _ _ _ _ _ _ c.in_ok-term.ensures (then_comes _ _ _ _ _ _ _ _ c.in_ok-func.ensures (c.extractor_behind.ensures))
