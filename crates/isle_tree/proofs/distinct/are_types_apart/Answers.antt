use Rattle.isle_tree.proofs.Apart.{told, not_told, seen_none, seen_more, seen_again, types_more, types_whole}
use Rattle.isle_tree.proofs.distinct.are_types_apart.Goals as goal

pub loop-item-init : goal.loop-item-init
loop-item-init c = seen_none c.new-seen.result c.new-seen.ensures.empty

pub returns-then-not-branch : goal.returns-then-not-branch
returns-then-not-branch c =
    seen_again _ _ _ _ c.as_str.result c.loop-item.seen (types_whole c.args.types.now c.loop-item.item-index c.item-item.result c.loop-item-test.true c.item-item.is) c.as_str.ensures (not_told _ _ c.in_ok-insert.ensures.added c.if-not-branch.true) c.loop-item.invariant

pub loop-item-preserved : goal.loop-item-preserved
loop-item-preserved c =
    seen_more _ _ _ c.as_str.result c.loop-item.seen c.insert.new.self (types_more c.args.types.now c.loop-item.item-index c.item-item.result c.loop-item-test.true c.item-item.is) c.as_str.ensures (told _ _ c.in_ok-insert.ensures.added c.if-not-branch.false) c.in_ok-insert.ensures.updates c.loop-item.invariant
