use Rattle.std.proofs.Common.{rules}
use Rattle.isle_reading.specs.Views.{left}
use Rattle.isle_syntax.proofs.PassedSteps.{failed, list_refused, all_skipped, skip_refused, more_skipped}
use Rattle.isle_syntax.proofs.passed.+passed.Goals as goal

pub skip_any-returns-in_err-open-in-Some : goal.skip_any-returns-in_err-open-in-Some
skip_any-returns-in_err-open-in-Some t c = failed _ _ _ _ c.from_residual.ensures.1 (list_refused c.args.most c.args.depth c.in-Some.field-0 (left c.args.tokens.now) _ (search rules) (search rules) c.in_err-open-in-Some.ensures)

pub skip_anys-returns-in-Some : goal.skip_anys-returns-in-Some
skip_anys-returns-in-Some t c = all_skipped _ _ _ c.in-Some.field-0 _ _ _ c.loop-test.true (search rules) c.skip.ensures c.loop.invariant

pub skip_anys-returns-in_err-skip_any-in-None : goal.skip_anys-returns-in_err-skip_any-in-None
skip_anys-returns-in_err-skip_any-in-None t c = failed _ _ _ _ c.from_residual.ensures.1 (skip_refused _ _ _ _ _ _ c.loop-test.true (search rules) c.in_err-skip_any-in-None.ensures c.loop.invariant)

pub skip_anys-loop-preserved : goal.skip_anys-loop-preserved
skip_anys-loop-preserved t c = more_skipped _ _ _ _ _ _ c.loop-test.true (search rules) c.in_ok-skip_any-in-None.ensures c.loop.invariant
