use Rattle.std.proofs.Common.{rules, ◌≡◌, [], ◌∷◌, ◌++◌, ap, ◌∙◌}
use Rattle.isle_core.specs.Bindable.{bound_by}
use Rattle.isle_blocks.specs.Needed.{needs}
use Rattle.isle_blocks.specs.Nest.{binds, left_calls}
use Rattle.isle_blocks.specs.Tables.{next_in}
use Rattle.isle_blocks.proofs.PushedBinds.{pushed_after, so_named}
use Rattle.isle_blocks.proofs.nest.push_behind_lists.Goals as goal

pub returns : goal.returns
returns c =
    let t = c.args.tables.now in
    let bound = c.args.bound.now in
    let calls = binds t.bindings.now (next_in t) bound in
    let given : c.as_slice-2.result.now ≡ left_calls (next_in t) bound c.args.rule.now.ordered = c.as_slice-2.ensures.value ∙ c.in_ok-calls.ensures ∙ ap (left_calls (next_in t) bound) c.as_slice.ensures in
    let left = left_calls (next_in t) bound c.args.rule.now.ordered in
    let reads : c.from_ref.result.now ≡ c.args.rule.now.result ∷ [] = search rules in
    so_named (ap (λ cs. calls cs ++ needs t.bindings.now (bound_by bound (calls cs)) c.from_ref.result.now) given ∙ ap (λ bs. calls left ++ needs t.bindings.now (bound_by bound (calls left)) bs) reads)
    (pushed_after (calls c.as_slice-2.result.now) (λ ls. needs t.bindings.now ls c.from_ref.result.now) bound c.push_calls.new.bound c.push_needs.new.bound
    c.args.order.now.items c.push_calls.new.order.items c.push_needs.new.order.items c.in_ok-push_calls.ensures c.in_ok-push_needs.ensures)
