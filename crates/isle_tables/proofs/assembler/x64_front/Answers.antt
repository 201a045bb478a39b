use Rattle.std.proofs.Common.{rules}
use Rattle.isle_reading.proofs.Steps.{passed, then_got, done_got, then_refuses, bind_refuses}
use Rattle.isle_tables.specs.Reading.{read_x64_front}
use Rattle.isle_tables.proofs.assembler.x64_front.Goals as goal

pub returns-in_err-name : goal.returns-in_err-name
unfolding read_x64_front
returns-in_err-name c = passed _ _ _ _ _ c.from_residual-in_err-name.ensures.1 (then_refuses _ _ _ _ _ _ c.in_ok-mnemonic.ensures (bind_refuses _ _ _ _ c.in_err-name.ensures))

pub returns-in_err-xops : goal.returns-in_err-xops
unfolding read_x64_front
returns-in_err-xops c = passed _ _ _ _ _ c.from_residual-in_err-xops.ensures.1 (then_refuses _ _ _ _ _ _ c.in_ok-mnemonic.ensures (then_refuses _ _ _ _ _ _ c.in_ok-name.ensures (bind_refuses _ _ _ _ c.in_err-xops.ensures)))

pub returns : goal.returns
unfolding read_x64_front
returns c = then_got _ _ _ _ _ _ c.in_ok-mnemonic.ensures (then_got _ _ _ _ _ _ c.in_ok-name.ensures (then_got _ _ _ _ _ _ c.in_ok-xops.ensures (search (rules, done_got))))
