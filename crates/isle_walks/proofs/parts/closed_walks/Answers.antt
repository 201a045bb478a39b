use Rattle.std.proofs.Common.{◌≡◌, ◌∙◌, ap, map, Bool}
use Rattle.std.specs.Global.{Vec}
use Rattle.std.proofs.lemmas.Result.{IfOk-weaker}
use Rattle.isle_walks.specs.Walks.{AreClosedTold}
use Rattle.isle_walks.specs.Parts.{tells_closed}
use Rattle.isle_walks.proofs.WholeSearch.{all_told}
use Rattle.isle_walks.proofs.parts.closed_walks.Goals as goal

pub returns : goal.returns
returns c =
    let search = c.step.new.self in
    let done = c.in_ok-step.ensures.all c.if-branch.false in
    IfOk-weaker c.answers.result (λ (closed : Vec Bool). closed.items ≡ map tells_closed c.as_slice.result.now) (λ (closed : Vec Bool). AreClosedTold c.args.graph.now closed.items)
    (λ closed is. all_told c.args.graph.now search.marks.items search.path.items closed.items c.in_ok-step.ensures.searched.marked done (is ∙ ap (map tells_closed) c.as_slice.ensures.value))
    c.answers.ensures
