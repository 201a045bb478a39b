use Rattle.std.proofs.Common.{rules}
use Rattle.isle_reading.specs.Combinators.{stays}
use Rattle.isle_reading.proofs.Steps.{passed}
use Rattle.isle_reading.proofs.ListSteps.{all-refuses}
use Rattle.isle_tables.specs.Reading.{read_item}
use Rattle.isle_tables.proofs.Steps.{all-next}
use Rattle.isle_tables.proofs.reading.items.Goals as goal

pub returns-in_err-item : goal.returns-in_err-item
returns-in_err-item c = passed _ _ _ _ _ c.from_residual.ensures.1 (all-refuses (λ s. read_item c.args.most) stays tt _ _ _ _ _ _ c.loop-test.true (search rules) c.in_err-item.ensures c.loop.invariant)

pub loop-preserved : goal.loop-preserved
loop-preserved c = all-next (read_item c.args.most) _ _ _ _ _ _ _ _ c.loop-test.true (search rules) c.in_ok-item.ensures c.in_ok-push.ensures.items c.loop.invariant
