use Rattle.std.proofs.Common.{rules}
use Rattle.isle_reading.proofs.Steps.{passed, then_got, done_got, then_refuses, bind_refuses}
use Rattle.isle_tables.specs.Reading.{read_some_alt}
use Rattle.isle_tables.proofs.assembler.some_alt.Goals as goal

pub returns-in_err-close : goal.returns-in_err-close
unfolding read_some_alt
returns-in_err-close c = passed _ _ _ _ _ c.from_residual-in_err-close.ensures.1 (then_refuses _ _ _ _ _ _ c.in_ok-alternate.ensures (bind_refuses _ _ _ _ c.in_err-close.ensures))

pub returns : goal.returns
unfolding read_some_alt
returns c = then_got _ _ _ _ _ _ c.in_ok-alternate.ensures (then_got _ _ _ _ _ _ c.in_ok-close.ensures (search (rules, done_got)))
