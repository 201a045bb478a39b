use Rattle.std.proofs.Common.{◌≡◌, ◌∙◌, ap, length, arith}
use Rattle.isle_walks.specs.Walks.{next_of}
use Rattle.isle_walks.proofs.NextNodes.{copied_is, next_of_is, next_below, looked_on, left_there}
use Rattle.isle_walks.proofs.depth_first.DepthFirst.next_left.Goals as goal
use Rattle.isle_walks.proofs.depth_first.DepthFirst.next_left.Goals.{After-as_slice}

-- what the code goes over is what the node leads to
nodes_are : (c : After-as_slice) → c.as_slice-nodes.result.now ≡ next_of c.args.graph.now c.args.node
nodes_are c = c.as_slice-nodes.ensures ∙ next_of_is c.args.graph.now c.args.node c.index-graph-node.result c.requires.there c.index-graph-node.is

pub first_left-place-requires-clause-there : goal.first_left-place-requires-clause-there
first_left-place-requires-clause-there c = λ place lt.
    let below = next_below c.args.graph.now c.args.node c.as_slice-nodes.result.now c.requires.nodes (nodes_are c) place lt in
    let value = ap length c.as_slice.ensures.value in
    let marks = c.requires.sound.marks in
    omega arith

pub returns-clause-sound : goal.returns-clause-sound
returns-clause-sound c = looked_on c.args.graph.now c.args.self.now.looked.items c.args.self.now.done.items c.args.self.now.order.items c.args.node c.index.result.now c.first_left-place.result c.as_slice-nodes.result.now c.as_slice.result.now
    c.requires.sound c.requires.there (nodes_are (goal.at.returns-clause-sound c).After-as_slice) c.as_slice.ensures.value c.index.ensures
    c.first_left-place.ensures.within.1 c.first_left-place.ensures.done

pub returns-clause-left : goal.returns-clause-left
returns-clause-left c = left_there c.args.graph.now c.args.self.now.looked.items c.args.self.now.done.items c.args.self.now.order.items c.args.node c.index.result.now c.first_left-place.result c.as_slice-nodes.result.now c.as_slice.result.now
    c.requires.sound c.requires.there (nodes_are (goal.at.returns-clause-left c).After-as_slice) c.as_slice.ensures.value c.index.ensures
    c.first_left-place.ensures.within.1 c.first_left-place.ensures.done
    c.copied.result (c.copied.ensures ∙ copied_is c.as_slice-nodes.result.now c.first_left-place.result c.get.result c.get.ensures.lookup.3) c.first_left-place.ensures.left
