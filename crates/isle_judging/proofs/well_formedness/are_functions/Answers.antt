use Rattle.std.proofs.Common.{subst}
use Rattle.isle_judging.proofs.Functions.{Decides, left_more, left_stop, left_none}
use Rattle.isle_judging.proofs.well_formedness.are_functions.Goals as goal

pub returns-then-not-branch : goal.returns-then-not-branch
returns-then-not-branch c =
    left_stop c.args.callees.now c.args.fns.now c.loop-f.f-index c.f-item.result c.loop-f-test.true c.f-item.is
    (subst (λ b. Decides c.args.callees.now b c.f-item.result) c.if-not-branch.true c.in_ok-is_function.ensures) c.loop-f.invariant

pub loop-f-preserved : goal.loop-f-preserved
loop-f-preserved c =
    left_more c.args.callees.now c.args.fns.now c.loop-f.f-index c.f-item.result c.loop-f-test.true c.f-item.is
    (subst (λ b. Decides c.args.callees.now b c.f-item.result) c.if-not-branch.false c.in_ok-is_function.ensures) c.loop-f.invariant

pub returns : goal.returns
returns c = left_none c.args.callees.now c.args.fns.now c.loop-f.f-index c.loop-f-test.false c.loop-f.invariant
