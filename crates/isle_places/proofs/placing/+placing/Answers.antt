use Rattle.std.proofs.Common.{[], ◌∷◌, ap, ◌∙◌}
use Rattle.isle_tree.specs.Views.{function, program, stmt, body}
use Rattle.isle_places.specs.Told.{item_told, look_told}
use Rattle.isle_places.specs.Places.{both_places, stmt_places, body_places}
use Rattle.isle_places.specs.ToldViews.{tells, placed}
use Rattle.isle_places.proofs.PlacesAt.{two_ok}
use Rattle.isle_places.proofs.ToldLaws.{left_scope}
use Rattle.isle_places.proofs.PlacedStatements.{tells_more, let_after, list_after, test_places, arm_step, statement_step}
use Rattle.isle_places.proofs.placing.+placing.Goals as goal

pub push_arm-returns-clause-kept : goal.push_arm-returns-clause-kept
push_arm-returns-clause-kept t c = left_scope c.push_body.new.bound c.args.bound.now c.truncate.new.self c.len-count.result _ c.len-count.ensures c.truncate.ensures (c.in_ok-push_body.ensures.kept ∙ c.in_ok-bind_pattern.ensures)

pub push_loop-returns-clause-kept : goal.push_loop-returns-clause-kept
push_loop-returns-clause-kept t c =
    left_scope c.push_body.new.bound c.args.bound.now c.truncate.new.self c.len-count.result ((c.args.item, item_told (look_told (tells c.args.bound.now) c.args.list)) ∷ []) c.len-count.ensures c.truncate.ensures
    (c.in_ok-push_body.ensures.kept ∙ tells_more c.args.bound.now c.bind.new.self c.args.item c.item_told-held.result (item_told (look_told (tells c.args.bound.now) c.args.list)) (c.item_told-held.ensures ∙ ap item_told c.local_told.ensures) c.in_ok-bind.ensures.more)

pub push_body-returns-clause-kept : goal.push_body-returns-clause-kept
push_body-returns-clause-kept t c = left_scope c.loop-statement.bound c.args.bound.now c.truncate.new.self c.len-count.result c.loop-statement.invariant.1.0 c.len-count.ensures c.truncate.ensures c.loop-statement.invariant.1.1

pub push_body-loop-statement-preserved : goal.push_body-loop-statement-preserved
push_body-loop-statement-preserved t c =
    statement_step (program c.args.walk.signatures.now) (function c.args.walk.f.now) c.args.statements.now c.loop-statement.statement-index c.statement-item.result (tells c.args.bound.now) (tells c.loop-statement.bound) (tells c.push_statement.new.bound) (placed c.loop-statement.found.items) (placed c.push_statement.new.found.items) (placed c.args.found.now.items)
    (body_places (program c.args.walk.signatures.now) (function c.args.walk.f.now) (tells c.args.bound.now) (body c.args.statements.now)) c.loop-statement-test.true c.statement-item.is c.in_ok-push_statement.ensures.more
    c.in_ok-push_statement.ensures.after c.loop-statement.invariant

pub push_statement-loop-arm-preserved : goal.push_statement-loop-arm-preserved
push_statement-loop-arm-preserved t c =
    arm_step (program c.args.walk.signatures.now) (function c.args.walk.f.now) c.as_slice-arm-items.result.now c.loop-arm.arm-index c.arm-item.result c.in-Match.read c.as_slice-in-loop-arm.result.now (tells c.args.bound.now) (tells c.loop-arm.bound) (tells c.push_arm-in-loop-arm.new.bound) (placed c.loop-arm.found.items) (placed c.push_arm-in-loop-arm.new.found.items) (placed c.args.found.now.items)
    (stmt_places (program c.args.walk.signatures.now) (function c.args.walk.f.now) (tells c.args.bound.now) (stmt c.args.statement.now)) c.loop-arm-test.true c.arm-item.is
    c.as_slice-in-loop-arm.ensures c.in_ok-push_arm-in-Match.ensures.more c.in_ok-push_arm-in-Match.ensures.kept c.loop-arm.invariant

pub push_statement-returns-in_ok-push_computed-in-Let-clause-after : goal.push_statement-returns-in_ok-push_computed-in-Let-clause-after
push_statement-returns-in_ok-push_computed-in-Let-clause-after t c =
    let_after c.bind.result (program c.args.walk.signatures.now) (function c.args.walk.f.now) c.in-Let.local c.in-Let.computed c.args.statement.now c.expr_told-held.result c.args.bound.now c.bind.new.self c.in-Let.is c.expr_told-held.ensures c.bind.ensures.more

pub push_statement-returns-in_ok-push_call-in-LetList-clause-after : goal.push_statement-returns-in_ok-push_call-in-LetList-clause-after
push_statement-returns-in_ok-push_call-in-LetList-clause-after t c =
    list_after c.bind-in-LetList.result (program c.args.walk.signatures.now) (function c.args.walk.f.now) c.in-LetList.local c.in-LetList.call c.args.statement.now c.list_told-held.result c.args.bound.now c.bind-in-LetList.new.self c.in-LetList.is c.list_told-held.ensures c.bind-in-LetList.ensures.more

pub push_statement-returns-in_ok-push_both-in-IfEq-clause-more : goal.push_statement-returns-in_ok-push_both-in-IfEq-clause-more
push_statement-returns-in_ok-push_both-in-IfEq-clause-more t c =
    two_ok c.push_body.result (placed c.args.found.now.items) (placed c.push_both.new.found.items) (placed c.push_body.new.found.items) (both_places (function c.args.walk.f.now) (tells c.args.bound.now) c.in-IfEq.a c.in-IfEq.b)
    (body_places (program c.args.walk.signatures.now) (function c.args.walk.f.now) (tells c.args.bound.now) (body c.as_slice.result.now)) (stmt_places (program c.args.walk.signatures.now) (function c.args.walk.f.now) (tells c.args.bound.now) (stmt c.args.statement.now)) c.in_ok-push_both-in-IfEq.ensures c.push_body.ensures.more
    (test_places (program c.args.walk.signatures.now) (function c.args.walk.f.now) (tells c.args.bound.now) c.in-IfEq.a c.in-IfEq.b c.in-IfEq.inside c.as_slice.result.now c.args.statement.now c.in-IfEq.is c.as_slice.ensures)
