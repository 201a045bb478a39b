use Rattle.isle_tree.proofs.Apart.{told, not_told, seen_none, seen_more, seen_again, terms_more, terms_whole}
use Rattle.isle_tree.proofs.distinct.are_distinct.Goals as goal

pub loop-f-init : goal.loop-f-init
loop-f-init c = seen_none c.new-seen.result c.new-seen.ensures.empty

pub returns-then-not-branch : goal.returns-then-not-branch
returns-then-not-branch c =
    seen_again _ _ _ _ c.as_str.result c.loop-f.seen (terms_whole c.args.fns.now c.loop-f.f-index c.f-item.result c.loop-f-test.true c.f-item.is) c.as_str.ensures (not_told _ _ c.in_ok-insert.ensures.added c.if-not-branch.true) c.loop-f.invariant

pub loop-f-preserved : goal.loop-f-preserved
loop-f-preserved c =
    seen_more _ _ _ c.as_str.result c.loop-f.seen c.insert.new.self (terms_more c.args.fns.now c.loop-f.f-index c.f-item.result c.loop-f-test.true c.f-item.is) c.as_str.ensures (told _ _ c.in_ok-insert.ensures.added c.if-not-branch.false) c.in_ok-insert.ensures.updates c.loop-f.invariant
