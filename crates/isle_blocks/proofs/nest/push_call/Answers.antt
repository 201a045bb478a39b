use Rattle.std.proofs.Common.{rules, ◌≡◌, [], ◌∷◌, ◌++◌, Some, None, ap, ◌∙◌}
use Rattle.isle_blocks.specs.Needed.{needs}
use Rattle.isle_blocks.specs.Nest.{with_inner}
use Rattle.isle_blocks.specs.Tables.{next_in}
use Rattle.isle_blocks.proofs.PushedBinds.{pushed_then, so_named}
use Rattle.isle_blocks.proofs.nest.push_call.Goals as goal

pub returns-in_ok-push_one-2 : goal.returns-in_ok-push_one-2
returns-in_ok-push_one-2 c =
    let t = c.args.tables.now in
    let b = c.in-Some.next in
    let ns = needs t.bindings.now c.args.bound.now c.parameters_at.result.now in
    let has : Some b ≡ next_in t c.args.call.0 = search rules in
    so_named (ap (λ o. ns ++ with_inner o c.args.call) has ∙ ap (λ ps. needs t.bindings.now c.args.bound.now ps ++ with_inner (next_in t c.args.call.0) c.args.call) c.parameters_at.ensures)
    (pushed_then ns (c.args.call ∷ b ∷ []) c.args.bound.now c.push_needs.new.bound c.push_one-in-Some.new.bound c.args.order.now.items c.push_needs.new.order.items c.push_one-in-Some.new.order.items c.in_ok-push_needs.ensures
    (pushed_then (c.args.call ∷ []) (b ∷ []) c.push_needs.new.bound c.push_one.new.bound c.push_one-in-Some.new.bound c.push_needs.new.order.items c.push_one.new.order.items c.push_one-in-Some.new.order.items c.in_ok-push_one.ensures c.in_ok-push_one-2.ensures))

pub returns-in_default : goal.returns-in_default
returns-in_default c =
    let t = c.args.tables.now in
    let ns = needs t.bindings.now c.args.bound.now c.parameters_at.result.now in
    let has : None ≡ next_in t c.args.call.0 = search rules in
    so_named (ap (λ o. ns ++ with_inner o c.args.call) has ∙ ap (λ ps. needs t.bindings.now c.args.bound.now ps ++ with_inner (next_in t c.args.call.0) c.args.call) c.parameters_at.ensures)
    (pushed_then ns (c.args.call ∷ []) c.args.bound.now c.push_needs.new.bound c.push_one.new.bound c.args.order.now.items c.push_needs.new.order.items c.push_one.new.order.items c.in_ok-push_needs.ensures c.in_ok-push_one.ensures)
