use Rattle.isle_target.proofs.CountedTests.{body_counted, arms_counted}
use Rattle.isle_target.proofs.counting.+counting.Goals as goal

pub count_body-returns : goal.count_body-returns
count_body-returns t c = body_counted c.loop-statement.counted c.args.statements.now c.loop-statement.statement-index _ c.loop-statement.invariant.fits c.loop-statement-test.false c.loop-statement.invariant.left

pub count_statement-returns-after-loop-arm : goal.count_statement-returns-after-loop-arm
count_statement-returns-after-loop-arm t c = arms_counted c.loop-arm.counted c.as_slice-arm-items.result.now c.loop-arm.arm-index _ c.loop-arm.invariant.fits c.loop-arm-test.false c.loop-arm.invariant.left
