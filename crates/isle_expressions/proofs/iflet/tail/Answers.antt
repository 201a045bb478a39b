use Rattle.std.proofs.Common.{◌≡◌, ◌≤◌, ◌∙◌, length, arith, rules, ap}
use Rattle.isle_reading.proofs.Running.{got_shrinks}
use Rattle.isle_reading.proofs.Steps.{passed}
use Rattle.isle_reading.specs.Reader.{Got}
use Rattle.isle_reading.specs.Views.{left}
use Rattle.isle_expressions.specs.ReadingViews.{step_seen}
use Rattle.isle_expressions.proofs.TailSteps.{tail-more, tail-last, tail-refuses}
use Rattle.isle_expressions.proofs.iflet.tail.Goals as goal

pub returns-in_err-next : goal.returns-in_err-next
returns-in_err-next c = passed _ _ _ _ _ c.from_residual.ensures.1 (tail-refuses _ _ _ _ _ _ _ c.loop-test.true c.in_err-next.ensures c.loop.invariant.0)

pub returns-in-Last : goal.returns-in-Last
returns-in-Last c = tail-last _ _ _ _ _ _ _ _ c.loop-test.true (c.in_ok-next.ensures ∙ ap (λ s. Got (step_seen s) (left c.next_step.new.tokens)) c.in-Last.is) c.loop.invariant.0

pub loop-preserved : goal.loop-preserved
loop-preserved c =
    let a : length (left c.next_step.new.tokens) ≤ length (left c.loop.tokens) = got_shrinks _ _ _ _ c.in_ok-next.ensures in
    (tail-more _ _ _ _ _ _ _ _ _ _ c.loop-test.true (c.in_ok-next.ensures ∙ ap (λ s. Got (step_seen s) (left c.next_step.new.tokens)) c.in-More.is) c.in_ok-push-in-More.ensures.items c.loop.invariant.0, omega (arith, a, c.loop.invariant.1))
