use Rattle.isle_blocks.specs.Nest.{left_calls}
use Rattle.isle_blocks.specs.Tables.{next_in}
use Rattle.std.proofs.Common.{refl}
use Rattle.isle_blocks.proofs.PushedBinds.{left_step}
use Rattle.isle_blocks.proofs.nest.left_calls.Goals as goal

pub loop-call-preserved : goal.loop-call-preserved
loop-call-preserved c =
    let calls = c.args.calls.now in
    let inners = next_in c.args.tables.now in
    left_step inners c.args.bound.now calls c.loop-call.call-index _ _ c.loop-call.left.items c.push_left.new.left.items (left_calls inners c.args.bound.now calls)
    c.loop-call-test.true refl c.in_ok-push_left.ensures c.loop-call.invariant
