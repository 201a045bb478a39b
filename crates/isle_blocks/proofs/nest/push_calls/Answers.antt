use Rattle.std.proofs.Common.{◌≡◌, [], drop, refl, ap}
use Rattle.std.proofs.lemmas.List.{drop_all}
use Rattle.isle_blocks.specs.Nest.{call_binds, binds}
use Rattle.isle_blocks.specs.Tables.{next_in}
use Rattle.isle_blocks.proofs.PushedBinds.{left_more, left_none}
use Rattle.isle_blocks.proofs.nest.push_calls.Goals as goal

pub loop-call-preserved : goal.loop-call-preserved
loop-call-preserved c =
    let t = c.args.tables.now in
    let each = binds t.bindings.now (next_in t) in
    left_more (call_binds t.bindings.now (next_in t)) each (each c.args.bound.now c.args.calls.now) c.args.calls.now c.loop-call.call-index _ _ c.args.bound.now c.loop-call.bound c.push_call.new.bound
    c.args.order.now.items c.loop-call.order.items c.push_call.new.order.items (λ bound b more. refl) c.loop-call-test.true refl c.in_ok-push_call.ensures c.loop-call.invariant

pub returns : goal.returns
returns c =
    let t = c.args.tables.now in
    let each = binds t.bindings.now (next_in t) in
    let none : drop c.loop-call.call-index c.args.calls.now ≡ [] = drop_all c.loop-call.call-index c.args.calls.now c.loop-call-test.false in
    left_none (each c.args.bound.now c.args.calls.now) (each c.loop-call.bound (drop c.loop-call.call-index c.args.calls.now)) c.args.bound.now c.loop-call.bound c.args.order.now.items c.loop-call.order.items
    (ap (each c.loop-call.bound) none) c.loop-call.invariant
