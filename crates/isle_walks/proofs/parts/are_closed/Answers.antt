use Rattle.std.proofs.Common.{◌≡◌, ◌∙◌, ◌<◌, ap, subst, slice_index, length, arith, rules}
use Rattle.std.proofs.lemmas.List.Elements.{Contains-get_or}
use Rattle.isle_walks.specs.Walks.{next_of}
use Rattle.isle_walks.specs.Sound.{has}
use Rattle.isle_walks.proofs.NextNodes.{next_of_is}
use Rattle.isle_walks.proofs.ClosedParts.{has_same}
use Rattle.isle_walks.proofs.parts.are_closed.Goals as goal

pub offset_bounds-graph-node : goal.offset_bounds-graph-node
offset_bounds-graph-node c =
    let there : slice_index c.args.nodes.now 0 < length c.args.graph.now = c.requires.there (slice_index c.args.nodes.now 0) (Contains-get_or c.args.nodes.now 0 0 (omega arith)) in
    search rules

pub bounds-graph-node : goal.bounds-graph-node
bounds-graph-node c = c.requires.there (slice_index c.args.nodes.now 0) (Contains-get_or c.args.nodes.now 0 0 (omega arith))

pub returns-in-len1-clause-one : goal.returns-in-len1-clause-one
returns-in-len1-clause-one c = λ node is.
    let first = slice_index c.args.nodes.now 0 in
    let there = c.requires.there first (Contains-get_or c.args.nodes.now 0 0 (omega arith)) in
    subst (λ n. c.contains.result ≡ has (next_of c.args.graph.now n) n) (ap (λ xs. slice_index xs 0) is)
    (c.contains.ensures.value ∙ has_same c.as_slice.result.now first ∙ ap (λ xs. has xs first) (c.as_slice.ensures ∙ next_of_is c.args.graph.now first c.index-graph-node.result there c.index-graph-node.is))
