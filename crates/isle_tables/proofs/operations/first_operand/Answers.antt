use Rattle.std.proofs.Common.{rules}
use Rattle.isle_reading.proofs.Steps.{then_got, done_got}
use Rattle.isle_tables.specs.Reading.{read_first}
use Rattle.isle_tables.proofs.operations.first_operand.Goals as goal

pub returns : goal.returns
unfolding read_first
returns c = then_got _ _ _ _ _ _ c.in_ok-word.ensures (search (rules, done_got))
