use Rattle.isle_runtime.proofs.ListLaws.{gives_first}
use Rattle.isle_runtime.proofs.wrapper.ContextIterWrapperContextIter.next.Goals as goal

pub returns-clause-first : goal.returns-clause-first
returns-clause-first g c = λ items has. gives_first g.I.Iterator.next_gives items c.self.inside.iter c.next.new.self c.next.result (rw c.self.view_is has) c.next.ensures.steps
