use Rattle.std.proofs.Common.{◌≤◌, length, arith, rules, refl}
use Rattle.isle_reading.proofs.Running.{got_shrinks}
use Rattle.isle_reading.proofs.Steps.{passed}
use Rattle.isle_reading.proofs.ListSteps.{all-more, all-refuses}
use Rattle.isle_reading.specs.Views.{left}
use Rattle.isle_syntax.proofs.definition.file_of.Goals as goal

pub returns-in_err-definition : goal.returns-in_err-definition
returns-in_err-definition c = passed _ _ _ _ _ c.from_residual.ensures.1 (all-refuses _ _ _ _ _ _ _ _ _ c.loop-test.true (search rules) c.in_err-definition.ensures c.loop.invariant.0)

pub loop-preserved : goal.loop-preserved
loop-preserved c =
    let a : length (left c.definition.new.tokens) ≤ length (left c.loop.tokens) = got_shrinks _ _ _ _ c.in_ok-definition.ensures in
    (all-more _ _ _ _ _ _ _ _ _ _ _ _ _ c.loop-test.true (search rules) c.in_ok-definition.ensures c.in_ok-push.ensures.items refl c.loop.invariant.0, omega (arith, a, c.loop.invariant.1))
