use Rattle.std.proofs.Common.{rules}
use Rattle.isle_reading.proofs.Steps.{passed, then_got, done_got, then_refuses, bind_refuses}
use Rattle.isle_tables.specs.Reading.{read_x64}
use Rattle.isle_tables.proofs.assembler.x64.Goals as goal

pub returns-in_err-flags : goal.returns-in_err-flags
unfolding read_x64
returns-in_err-flags c = passed _ _ _ _ _ c.from_residual-in_err-flags.ensures.1 (then_refuses _ _ _ _ _ _ c.in_ok-mnemonic.ensures (bind_refuses _ _ _ _ c.in_err-flags.ensures))

pub returns-in_err-alternate : goal.returns-in_err-alternate
unfolding read_x64
returns-in_err-alternate c = passed _ _ _ _ _ c.from_residual-in_err-alternate.ensures.1 (then_refuses _ _ _ _ _ _ c.in_ok-mnemonic.ensures (then_refuses _ _ _ _ _ _ c.in_ok-flags.ensures (bind_refuses _ _ _ _ c.in_err-alternate.ensures)))

pub returns : goal.returns
unfolding read_x64
returns c = then_got _ _ _ _ _ _ c.in_ok-mnemonic.ensures (then_got _ _ _ _ _ _ c.in_ok-flags.ensures (then_got _ _ _ _ _ _ c.in_ok-alternate.ensures (search (rules, done_got))))
