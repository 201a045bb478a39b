use Rattle.std.proofs.Common.{◌≡◌, ◌∙◌, sym, arith, rules}
use Rattle.std.specs.Prelude.{vec_len}
use Rattle.std.proofs.lemmas.List.{get_or_default}
use Rattle.isle_walks.specs.Parts.{mark_of}
use Rattle.isle_walks.specs.declared.parts.Mark.TheVariants.{New}
use Rattle.isle_walks.proofs.LookStep.{done_looked, opened_looked, joined, joined_fewer}
use Rattle.isle_walks.proofs.parts.Search.look.Goals as goal
use Rattle.isle_walks.proofs.parts.Search.look.Goals.{After-index}

-- what the code reads is the node's mark
mark_is : (c : After-index) → mark_of c.args.self.now.marks.items c.args.node ≡ c.index.result.now
mark_is c =
    let many = c.requires.searched.marked.many in
    let there = c.requires.there in
    get_or_default c.args.self.now.marks.items c.args.node New c.index.result.now (omega arith) ∙ sym c.index.ensures

pub returns-then-place-last-clause-searched : goal.returns-then-place-last-clause-searched
returns-then-place-last-clause-searched c =
    let is = mark_is (goal.at.returns-then-place-last-clause-searched c).After-index ∙ c.in-Opened.is in
    joined c.requires.searched c.requires.next c.in-Opened.place c.args.last is c.if-place-last.true c.requires.last (vec_len c.args.self.now.parts) (search rules) c.pop.ensures.rest

pub returns-then-place-last-clause-less : goal.returns-then-place-last-clause-less
returns-then-place-last-clause-less c =
    let is = mark_is (goal.at.returns-then-place-last-clause-less c).After-index ∙ c.in-Opened.is in
    let fewer = joined_fewer c.requires.searched c.requires.next c.in-Opened.place c.args.last is c.if-place-last.true c.requires.last (vec_len c.args.self.now.parts) (search rules) c.pop.ensures.rest in
    omega arith

pub returns-else-place-last-clause-searched : goal.returns-else-place-last-clause-searched
returns-else-place-last-clause-searched c =
    let is = mark_is (goal.at.returns-else-place-last-clause-searched c).After-index ∙ c.in-Opened.is in
    opened_looked c.requires.searched c.requires.next (vec_len c.args.self.now.waiting) (search rules) c.pop-in-Opened.ensures.rest c.in-Opened.place c.args.last is c.if-place-last.false c.requires.last

pub returns-in-Done-clause-searched : goal.returns-in-Done-clause-searched
returns-in-Done-clause-searched c =
    let is = mark_is (goal.at.returns-in-Done-clause-searched c).After-index ∙ c.in-Done.is in
    done_looked c.requires.searched c.requires.next (vec_len c.args.self.now.waiting) (search rules) c.pop-in-Done.ensures.rest _ is
