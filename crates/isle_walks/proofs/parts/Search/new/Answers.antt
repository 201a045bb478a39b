use Rattle.isle_walks.proofs.WholeSearch.{new_searched}
use Rattle.isle_walks.proofs.parts.Search.new.Goals as goal

pub returns : goal.returns
returns c = new_searched c.args.graph.now c.in_ok-vec.field-0.items c.new.result.items c.new-2.result.items c.in_ok-nodes_below.field-0.items (c.in_ok-vec.ensures.items_if_clones_equal (λ y e. e)) c.new.ensures.items c.new-2.ensures.items c.in_ok-nodes_below.ensures
