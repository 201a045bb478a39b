use Rattle.std.proofs.Common.{rules}
use Rattle.isle_reading.proofs.Steps.{then_got, done_got}
use Rattle.isle_tables.specs.Reading.{read_item_after}
use Rattle.isle_tables.proofs.reading.extended_op.Goals as goal

pub returns : goal.returns
unfolding read_item_after
returns c = then_got _ _ _ _ _ _ c.in_ok-inst.ensures (search (rules, done_got))
