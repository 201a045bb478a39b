use Rattle.std.proofs.Common.{◌≡◌, ◌++◌, ap, ◌∙◌}
use Rattle.isle_core.specs.Bindable.{bound_by}
use Rattle.isle_blocks.specs.Needed.{needs}
use Rattle.isle_blocks.specs.Nest.{behind_lists, left_items}
use Rattle.isle_blocks.specs.Tables.{items_in, next_in}
use Rattle.isle_blocks.proofs.PushedBinds.{pushed_after, so_named}
use Rattle.isle_blocks.proofs.nest.push_last.Goals as goal

pub returns : goal.returns
returns c =
    let t = c.args.tables.now in
    let f = c.args.rule.now in
    let bound = c.args.bound.now in
    let given : c.as_slice.result.now ≡ left_items t.several (items_in t) f = c.as_slice.ensures.value ∙ c.in_ok-items.ensures in
    so_named (ap (λ is. needs t.bindings.now bound is ++ behind_lists t.bindings.now (next_in t) (bound_by bound (needs t.bindings.now bound is)) f) given)
    (pushed_after (needs t.bindings.now bound c.as_slice.result.now) (λ ls. behind_lists t.bindings.now (next_in t) ls f) bound c.push_needs.new.bound c.push_behind_lists.new.bound
    c.args.order.now.items c.push_needs.new.order.items c.push_behind_lists.new.order.items c.in_ok-push_needs.ensures c.in_ok-push_behind_lists.ensures)
