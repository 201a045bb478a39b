use Rattle.std.proofs.Common.{arith, ◌≡◌, ◌-◌, suc, [], drop, refl, sym, ap, ◌∙◌}
use Rattle.std.specs.Prelude.{option_map, slice_get}
use Rattle.std.proofs.lemmas.List.{drop_all}
use Rattle.isle_blocks.specs.Needed.{list_before, with_list, needed, each_needed}
use Rattle.isle_blocks.proofs.PushedBinds.{pushed_nil, pushed_then, so_named, needed_parts, needed_none, left_more, left_none}
use Rattle.isle_blocks.proofs.needed.+needed.Goals as goal

pub push_each-loop-read-preserved : goal.push_each-loop-read-preserved
push_each-loop-read-preserved t c =
    let one = needed c.args.bindings.now c.args.depth in
    let bs = c.args.reads.now in
    left_more one (each_needed one) (each_needed one c.args.bound.now bs) bs c.loop-read.read-index _ _ c.args.bound.now c.loop-read.bound c.push_needed.new.bound c.args.order.now.items c.loop-read.order.items c.push_needed.new.order.items
    (λ bound b more. refl) c.loop-read-test.true refl c.in_ok-push_needed.ensures c.loop-read.invariant

pub push_each-returns : goal.push_each-returns
push_each-returns t c =
    let one = needed c.args.bindings.now c.args.depth in
    let bs = c.args.reads.now in
    let none : drop c.loop-read.read-index bs ≡ [] = drop_all c.loop-read.read-index bs c.loop-read-test.false in
    left_none (each_needed one c.args.bound.now bs) (each_needed one c.loop-read.bound (drop c.loop-read.read-index bs)) c.args.bound.now c.loop-read.bound c.args.order.now.items c.loop-read.order.items
    (ap (each_needed one c.loop-read.bound) none) c.loop-read.invariant

pub push_needed-returns-then-is_bound : goal.push_needed-returns-then-is_bound
push_needed-returns-then-is_bound t c =
    so_named (sym (needed_none c.args.bindings.now c.args.depth c.args.bound.now c.args.binding (sym c.is_bound.ensures ∙ c.if-is_bound.true))) (pushed_nil c.args.bound.now c.args.order.now.items)

pub push_needed-returns : goal.push_needed-returns
push_needed-returns t c =
    let bs = c.args.bindings.now in
    let less = c.args.depth - 1 in
    let is : c.args.depth ≡ suc less = omega (arith, c.if-depth-eq0.false) in
    so_named
    (needed_parts bs c.args.depth less c.args.bound.now c.args.binding c.in-Some.parts.now is (sym c.is_bound.ensures ∙ c.if-is_bound.false) (ap (option_map (λ parts. parts.now)) (sym c.in-Some.is) ∙ c.parts_at.ensures))
    (pushed_then (each_needed (needed bs less) c.args.bound.now c.in-Some.parts.now) (with_list (list_before (slice_get bs c.args.binding.0)) c.args.binding) c.args.bound.now c.push_each.new.bound c.push_itself.new.bound c.args.order.now.items c.push_each.new.order.items c.push_itself.new.order.items
    c.in_ok-push_each.ensures c.in_ok-push_itself.ensures)
