use Rattle.std.proofs.Common.{◌≡◌, ◌++◌, ◌∙◌, refl, ap, length, arith, rules}
use Rattle.std.specs.Prelude.{vec_len}
use Rattle.std.proofs.lemmas.List.{length_push}
use Rattle.isle_walks.specs.Walks.{next_of}
use Rattle.isle_walks.proofs.EnterStep.{entered}
use Rattle.isle_walks.proofs.NextNodes.{next_of_is}
use Rattle.isle_walks.proofs.RisingParts.{front_is}
use Rattle.isle_walks.proofs.WorkLeft.{enter_less}
use Rattle.isle_walks.proofs.parts.Search.enter.Goals as goal
use Rattle.isle_walks.proofs.parts.Search.enter.Goals.{After-extend_from_slice}

pub index_mut-requires : goal.index_mut-requires
index_mut-requires c =
    let there = c.requires.there in
    let many = c.requires.searched.marked.many in
    omega arith

-- what is left of the nodes that wait
front : (c : After-extend_from_slice) → c.pop.new.self.items ≡ c.requires.next.before
front c = front_is c.args.self.now.waiting.items c.requires.next.before c.pop.new.self.items c.args.node (vec_len c.args.self.now.waiting) c.requires.next.last (search rules) c.pop.ensures.rest

-- what the node leads to
nexts_are : (c : After-extend_from_slice) → c.as_slice.result.now ≡ next_of c.args.graph.now c.args.node
nexts_are c = c.as_slice.ensures ∙ next_of_is c.args.graph.now c.args.node c.index-graph-node.result c.requires.there c.index-graph-node.is

pub returns-clause-searched : goal.returns-clause-searched
returns-clause-searched c =
    let at = (goal.at.returns-clause-searched c).After-extend_from_slice in
    entered c.requires.nodes c.requires.searched c.requires.next c.requires.new (search rules) (front at) (search rules) (search rules)
    c.in_ok-push-2.ensures.items c.in_ok-push.ensures.items c.in_ok-extend_from_slice.ensures.items (nexts_are at)

pub returns-clause-less : goal.returns-clause-less
returns-clause-less c =
    let at = (goal.at.returns-clause-less c).After-extend_from_slice in
    enter_less c.args.graph.now c.args.self.now.marks.items _ c.args.self.now.parts.items c.push.new.self.items c.requires.next.before c.args.self.now.waiting.items c.extend_from_slice.new.self.items c.args.node c.len.result
    c.requires.there c.requires.searched.marked.many c.requires.new refl c.requires.next.last (c.in_ok-extend_from_slice.ensures.items ∙ ap (λ xs. xs ++ c.as_slice.result.now) (front at) ∙ ap (λ xs. c.requires.next.before ++ xs) (nexts_are at))
    (ap length c.in_ok-push.ensures.items ∙ length_push c.args.self.now.parts.items _)
