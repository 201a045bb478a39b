use Rattle.isle_reading.proofs.Steps.{passed, then_comes, then_refuses, bind_refuses}
use Rattle.isle_tables.specs.Reading.{read_item}
use Rattle.isle_tables.proofs.reading.item.Goals as goal

pub returns-in_err-head : goal.returns-in_err-head
unfolding read_item
returns-in_err-head c = passed _ _ _ _ _ c.from_residual-in_err-head.ensures.1 (then_refuses _ _ _ _ _ _ c.in_ok-open.ensures (bind_refuses _ _ _ _ c.in_err-head.ensures))

pub returns : goal.returns
unfolding read_item
returns c = then_comes _ _ _ _ _ _ _ _ c.in_ok-open.ensures (then_comes _ _ _ _ _ _ _ _ c.in_ok-head.ensures c.item_after.ensures)
