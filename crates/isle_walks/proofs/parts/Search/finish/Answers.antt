use Rattle.std.proofs.Common.{◌≡◌, ◌∙◌, ℕ, ◌-◌, ◌<◌, sym, ap, subst, length, take, drop, Contains, arith, rules}
use Rattle.std.proofs.lemmas.List.{with_items_is}
use Rattle.isle_walks.specs.Parts.{mark_of, IsSearchedAt, left_at}
use Rattle.isle_walks.proofs.FinishStep.{begins_within, ended_there, finished, finished_less}
use Rattle.isle_walks.proofs.WholeSearch.{all_done}
use Rattle.isle_walks.proofs.parts.Search.finish.Goals as goal
use Rattle.isle_walks.proofs.parts.Search.finish.Goals.{After-mark_all}

pub offset_bounds-deref-part : goal.offset_bounds-deref-part
offset_bounds-deref-part c =
    let within = begins_within c.args.graph.now c.args.self.now.marks.items c.args.self.now.path.items c.args.self.now.parts.items c.pop.new.self.items c.in-Some.part c.args.self.now.waiting.items c.requires.searched c.in-Some.ensures.items c.deref.result.now c.deref.ensures.value in
    search rules

pub slice_bounds-nodes-count : goal.slice_bounds-nodes-count
slice_bounds-nodes-count c =
    let within = begins_within c.args.graph.now c.args.self.now.marks.items c.args.self.now.path.items c.args.self.now.parts.items c.pop.new.self.items c.in-Some.part c.args.self.now.waiting.items c.requires.searched c.in-Some.ensures.items c.deref.result.now c.deref.ensures.value in
    omega arith

pub slice_bounds-nodes-start : goal.slice_bounds-nodes-start
slice_bounds-nodes-start c =
    let within = begins_within c.args.graph.now c.args.self.now.marks.items c.args.self.now.path.items c.args.self.now.parts.items c.pop.new.self.items c.in-Some.part c.args.self.now.waiting.items c.requires.searched c.in-Some.ensures.items c.deref.result.now c.deref.ensures.value in
    search rules

pub are_closed-closed-requires : goal.are_closed-closed-requires
are_closed-closed-requires c = record {
  there = ended_there c.args.graph.now c.args.self.now.marks.items c.args.self.now.path.items c.args.self.now.parts.items c.pop.new.self.items c.in-Some.part c.args.self.now.waiting.items c.requires.searched c.in-Some.ensures.items c.deref.result.now c.deref.ensures.value;
}

pub mark_all-requires : goal.mark_all-requires
mark_all-requires c = record {
  there = λ node d.
      let there = ended_there c.args.graph.now c.args.self.now.marks.items c.args.self.now.path.items c.args.self.now.parts.items c.pop.new.self.items c.in-Some.part c.args.self.now.waiting.items c.requires.searched c.in-Some.ensures.items c.deref.result.now c.deref.ensures.value node d in
      let many = c.requires.searched.marked.many in
      let same = ap length c.as_mut_slice.ensures.value in
      omega arith;
}

pub returns-in_default-clause-all : goal.returns-in_default-clause-all
returns-in_default-clause-all c = λ _. all_done c.args.graph.now c.args.self.now.marks.items c.args.self.now.path.items c.args.self.now.parts.items c.args.self.now.waiting.items c.requires.searched c.requires.idle (search rules)

-- how many marks there are, and that those of other nodes are as they were
many_marks : (c : After-mark_all) → length c.mark_all.new.marks ≡ length c.args.self.now.marks.items
many_marks c = c.mark_all.ensures.many ∙ ap length c.as_mut_slice.ensures.value

same_marks : (c : After-mark_all) (node : ℕ) → (Contains (take (length c.deref.result.now - c.in-Some.part.begin) (drop c.in-Some.part.begin c.deref.result.now)) node → ⊥) → mark_of c.mark_all.new.marks node ≡ mark_of c.args.self.now.marks.items node
same_marks c node outside = c.mark_all.ensures.same node outside ∙ ap (λ ms. mark_of ms node) c.as_mut_slice.ensures.value

pub returns-clause-searched : goal.returns-clause-searched
returns-clause-searched c =
    let at = (goal.at.returns-clause-searched c).After-mark_all in
    let many = many_marks at in
    let marks_are = with_items_is c.args.self.now.marks c.mark_all.new.marks (search rules) in
    subst (λ ms. IsSearchedAt c.args.graph.now ms c.truncate.new.self.items c.pop.new.self.items c.args.self.now.waiting.items) (sym marks_are)
    (finished c.args.graph.now c.args.self.now.marks.items c.args.self.now.path.items c.args.self.now.parts.items c.pop.new.self.items c.in-Some.part c.args.self.now.waiting.items c.requires.searched c.in-Some.ensures.items c.deref.result.now c.deref.ensures.value c.requires.nodes c.requires.idle
    c.are_closed-closed.result c.are_closed-closed.ensures.more c.are_closed-closed.ensures.one c.mark_all.new.marks many c.mark_all.ensures.marked (same_marks at) c.truncate.new.self.items c.truncate.ensures.items)

pub returns-clause-less : goal.returns-clause-less
returns-clause-less c = λ _.
    let at = (goal.at.returns-clause-less c).After-mark_all in
    let many = many_marks at in
    let marks_are = with_items_is c.args.self.now.marks c.mark_all.new.marks (search rules) in
    subst (λ ms. left_at c.args.graph.now ms c.pop.new.self.items c.args.self.now.waiting.items < left_at c.args.graph.now c.args.self.now.marks.items c.args.self.now.parts.items c.args.self.now.waiting.items) (sym marks_are)
    (finished_less c.args.graph.now c.args.self.now.marks.items c.args.self.now.path.items c.args.self.now.parts.items c.pop.new.self.items c.in-Some.part c.args.self.now.waiting.items c.requires.searched c.in-Some.ensures.items c.deref.result.now c.deref.ensures.value c.requires.nodes c.requires.idle
    c.are_closed-closed.result c.are_closed-closed.ensures.more c.are_closed-closed.ensures.one c.mark_all.new.marks many c.mark_all.ensures.marked (same_marks at))
