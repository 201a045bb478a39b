use Rattle.std.proofs.Common.{◌≡◌, ◌∙◌, subst, length, arith, rules}
use Rattle.std.proofs.lemmas.List.{get_or_default}
use Rattle.isle_walks.specs.Parts.{mark_of}
use Rattle.isle_walks.proofs.MarkedNodes.{node_there, marked_more, same_more}
use Rattle.isle_walks.proofs.parts.mark_all.Goals as goal

pub offset_bounds-marks-node : goal.offset_bounds-marks-node
offset_bounds-marks-node c =
    let there = node_there c.args.nodes.now (length c.args.marks.now) (length c.loop-node.marks) c.loop-node.node-index c.requires.there c.loop-node.auto.marks c.loop-node-test.true in
    search rules

pub bounds-marks-node : goal.bounds-marks-node
bounds-marks-node c = node_there c.args.nodes.now (length c.args.marks.now) (length c.loop-node.marks) c.loop-node.node-index c.requires.there c.loop-node.auto.marks c.loop-node-test.true

pub loop-node-preserved : goal.loop-node-preserved
loop-node-preserved c =
    let there = node_there c.args.nodes.now (length c.args.marks.now) (length c.loop-node.marks) c.loop-node.node-index c.requires.there c.loop-node.auto.marks c.loop-node-test.true in
    record {
      marked = marked_more c.args.marks.now c.loop-node.marks c.args.nodes.now c.args.mark c.loop-node.node-index there c.loop-node.invariant.marked;
      same = same_more c.args.marks.now c.loop-node.marks c.args.nodes.now c.args.mark c.loop-node.node-index there c.loop-node.invariant.same;
    }

pub returns-clause-marked : goal.returns-clause-marked
returns-clause-marked c = λ node d. subst (λ n. mark_of c.loop-node.marks n ≡ c.args.mark) (get_or_default c.args.nodes.now d.0 0 node d.1 ∙ d.2) (c.loop-node.invariant.marked d.0 (let lt = d.1 in omega arith))
