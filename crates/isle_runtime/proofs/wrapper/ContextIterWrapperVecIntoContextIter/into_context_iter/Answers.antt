use Rattle.std.proofs.Common.{◌≡◌, ap, length, ◌∙◌}
use Rattle.isle_runtime.proofs.wrapper.ContextIterWrapperVecIntoContextIter.into_context_iter.Goals as goal

pub returns-clause-list : goal.returns-clause-list
returns-clause-list g c = λ items has.
    let is : c.self.inside.iter.items ≡ items = rw c.self.view_is has in (c.new.ensures.items ∙ is, c.new.ensures.len ∙ ap length is)
