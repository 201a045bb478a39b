use Rattle.std.proofs.Common.{rules}
use Rattle.isle_reading.proofs.Steps.{passed}
use Rattle.isle_reading.proofs.ListSteps.{list-next, list-end, list-refuses}
use Rattle.isle_tables.proofs.Steps.{field_none}
use Rattle.isle_tables.proofs.operations.fields.Goals as goal

pub returns-in-Some : goal.returns-in-Some
returns-in-Some c = list-end _ _ _ c.in-Some.field-0 _ _ _ _ c.loop-test.true (search rules) c.skip.ensures c.loop.invariant

pub returns-in_err-field-in-None : goal.returns-in_err-field-in-None
returns-in_err-field-in-None c =
    passed _ _ _ _ _ c.from_residual.ensures.1 (list-refuses _ _ _ _ _ _ _ c.loop-test.true field_none (search rules) c.in_err-field-in-None.ensures c.loop.invariant)

pub loop-preserved : goal.loop-preserved
loop-preserved c = list-next _ _ _ _ _ _ _ _ _ c.loop-test.true field_none (search rules) c.in_ok-field-in-None.ensures c.in_ok-push-in-None.ensures.items c.loop.invariant
