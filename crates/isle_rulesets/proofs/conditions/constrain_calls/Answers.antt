use Rattle.std.proofs.Common.{rules}
use Rattle.isle_rulesets.proofs.ConditionLaws.{finds_none, finds_next, finds_all}
use Rattle.isle_rulesets.proofs.conditions.constrain_calls.Goals as goal

pub loop-call-init : goal.loop-call-init
loop-call-init c = finds_none c.args.tests.now c.args.calls.now

pub loop-call-preserved : goal.loop-call-preserved
loop-call-preserved c =
    finds_next c.args.tests.now c.loop-call.tests c.constrain.new.tests c.args.calls.now c.loop-call.call-index _ c.loop-call-test.true (search rules) c.loop-call.invariant c.in_ok-constrain.ensures

pub returns : goal.returns
returns c = finds_all c.args.tests.now c.loop-call.tests c.args.calls.now c.loop-call.call-index c.loop-call-test.false c.loop-call.invariant
