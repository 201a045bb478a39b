use Rattle.std.proofs.Common.{arith, rules, refl}
use Rattle.isle_walks.proofs.Steps.{node_there, kept, closed_sound, closed_open, closed_smaller, closed_grows, more_open, shows_closed}
use Rattle.isle_walks.proofs.depth_first.DepthFirst.finish.Goals as goal

pub next_left-requires-clause-there : goal.next_left-requires-clause-there
next_left-requires-clause-there c = node_there c.pop.new.self.items c.in-Some.node c.loop-node.invariant.sound refl c.loop-node.invariant.path c.in-Some.ensures.items

pub close-requires : goal.close-requires
close-requires c =
    let looked = c.in_default-next_left.ensures in
    let there = node_there c.pop.new.self.items c.in-Some.node looked.sound looked.same c.loop-node.invariant.path c.in-Some.ensures.items in
    let marks = looked.sound.marks in
    omega arith

pub loop-node-smaller-in_default-next_left : goal.loop-node-smaller-in_default-next_left
loop-node-smaller-in_default-next_left c =
    let looked = c.in_default-next_left.ensures in
    closed_smaller c.pop.new.self.items c.in-Some.node looked.sound looked.same c.loop-node.invariant.path c.in-Some.ensures.items looked.left c.in_ok-close.ensures.order c.in_ok-close.ensures.looked c.in_ok-close.ensures.done

pub loop-node-preserved-in_default-next_left : goal.loop-node-preserved-in_default-next_left
loop-node-preserved-in_default-next_left c =
    let looked = c.in_default-next_left.ensures in
    let path = c.loop-node.invariant.path in
    let rest = c.pop.new.self.items in
    record {
      sound = closed_sound rest c.in-Some.node looked.sound looked.same path c.in-Some.ensures.items looked.left c.in_ok-close.ensures.order c.in_ok-close.ensures.looked c.in_ok-close.ensures.done;
      grows = closed_grows rest c.in-Some.node looked.sound looked.same path c.in-Some.ensures.items looked.left c.in_ok-close.ensures.order c.args.self.now.order.items c.loop-node.invariant.grows;
      path = closed_open rest c.in-Some.node looked.sound looked.same path c.in-Some.ensures.items looked.left c.in_ok-close.ensures.order;
    }

pub returns-then-len-graph : goal.returns-then-len-graph
returns-then-len-graph c =
    let looked = c.in-Some-next_left.ensures in
    shows_closed c.pop.new.self.items c.in-Some.node looked.sound looked.same c.loop-node.invariant.path c.in-Some.ensures.items c.requires.nodes looked.left (search rules)

pub loop-node-preserved : goal.loop-node-preserved
loop-node-preserved c =
    let looked = c.in-Some-next_left.ensures in
    record {
      sound = looked.sound;
      grows = kept c.pop.new.self.items c.in-Some.node looked.sound looked.same c.loop-node.invariant.path c.in-Some.ensures.items c.args.self.now.order.items c.loop-node.invariant.grows;
      path = more_open c.pop.new.self.items c.in-Some.node looked.sound looked.same c.loop-node.invariant.path c.in-Some.ensures.items c.requires.nodes looked.left (search rules) c.in_ok-push.ensures.items c.in_ok-push-2.ensures.items;
    }
