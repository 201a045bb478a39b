use Rattle.std.proofs.Common.{ap, sym, ◌∙◌}
use Rattle.std.specs.List.{list_all}
use Rattle.isle_tree.specs.Views.{body}
use Rattle.isle_tree.specs.Calls.{body_calls}
use Rattle.isle_interpreter.specs.Served.{has}
use Rattle.isle_interpreter.proofs.WithinArms.{arm_without, arms_within, match_within}
use Rattle.isle_interpreter.proofs.within.+within.Goals as goal

pub is_within-returns-then-not-are_within : goal.is_within-returns-then-not-are_within
is_within-returns-then-not-are_within t c =
    match_within (has c.args.served.now) c.in-Match.field-0 c.in-Match.arms c.as_slice-arm-items.result.now c.args.statement.now _ c.in-Match.is c.as_slice-arm-items.ensures
    (arm_without (has c.args.served.now) c.as_slice-arm-items.result.now c.loop-arm.arm-index c.arm-item.result c.loop-arm-test.true c.arm-item.is (ap (λ ss. list_all (has c.args.served.now) (body_calls (body ss))) (sym c.as_slice-in-loop-arm.ensures) ∙ sym c.if-not-are_within.ensures) c.loop-arm.invariant)

pub is_within-returns-after-loop-arm : goal.is_within-returns-after-loop-arm
is_within-returns-after-loop-arm t c =
    match_within (has c.args.served.now) c.in-Match.field-0 c.in-Match.arms c.as_slice-arm-items.result.now c.args.statement.now _ c.in-Match.is c.as_slice-arm-items.ensures
    (arms_within (has c.args.served.now) c.as_slice-arm-items.result.now c.loop-arm.arm-index c.loop-arm-test.false c.loop-arm.invariant)
