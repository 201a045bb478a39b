use Rattle.std.proofs.Common.{◌∙◌, ◌≤◌, ap, sym, subst, Contains, arith, rules}
use Rattle.std.proofs.lemmas.List.Elements.{Contains-push}
use Rattle.isle_walks.specs.Parts.{IsNextAt}
use Rattle.isle_walks.specs.declared.parts.Part.{Part}
use Rattle.isle_walks.proofs.RisingParts.{next_is, waits_some}
use Rattle.isle_walks.proofs.parts.Search.step.Goals as goal
use Rattle.isle_walks.proofs.parts.Search.step.Goals.{After-len-2, After-index-node}

pub finish-requires-clause-idle : goal.finish-requires-clause-idle
finish-requires-clause-idle c = record {
  none = λ nothing. let from = (c.last_part-last.ensures.none nothing).1 in let is = c.if-len-last.true in search rules;
  some = λ rest own is. let froms = ap (λ (p : Part). p.from) (c.last_part-last.ensures.some rest own is) in let same = c.if-len-last.true in omega arith;
}

-- some node waits
some_wait : (c : After-len-2) → 1 ≤ c.len-2.result
some_wait c = waits_some c.args.graph.now c.args.self.now.path.items c.args.self.now.parts.items c.args.self.now.waiting.items c.last_part-last.result c.len-2.result c.requires.searched.parted
    c.last_part-last.ensures.none c.last_part-last.ensures.some (search rules) (λ is. c.if-len-last.false (c.len.ensures ∙ sym c.len-2.ensures ∙ is))

pub overflow_sub-len : goal.overflow_sub-len
overflow_sub-len c = some_wait (goal.at.overflow_sub-len c).After-len-2

pub index-node-requires : goal.index-node-requires
index-node-requires c = let some = some_wait (goal.at.index-node-requires c).After-len-2 in omega arith

-- the node is the next one
next : (c : After-index-node) → IsNextAt c.args.self.now.parts.items c.args.self.now.waiting.items c.index-node.result.now
next c = next_is c.args.graph.now c.args.self.now.path.items c.args.self.now.parts.items c.args.self.now.waiting.items c.last_part-last.result c.len-2.result c.requires.searched.parted
    c.last_part-last.ensures.none c.last_part-last.ensures.some (search rules) (λ is. c.if-len-last.false (c.len.ensures ∙ sym c.len-2.ensures ∙ is)) c.index-node.result.now c.index-node.ensures

pub look-requires-clause-there : goal.look-requires-clause-there
look-requires-clause-there c =
    let is = next (goal.at.look-requires-clause-there c).After-index-node in
    c.requires.searched.waits.there c.index-node.result.now (subst (λ xs. Contains xs c.index-node.result.now) (sym is.last) (Contains-push is.before c.index-node.result.now))

pub look-requires-clause-next : goal.look-requires-clause-next
look-requires-clause-next c = next (goal.at.look-requires-clause-next c).After-index-node
