use Rattle.isle_runtime.proofs.ListLaws.{extended_all, extended_front}
use Rattle.isle_runtime.proofs.wrapper.ContextIterWrapper+Vec+T+C.extend.Goals as goal

pub returns-clause-all : goal.returns-clause-all
returns-clause-all g c =
    let ran = c.append.ensures.ran in
    extended_all g.It.Iterator.next_gives c.append.result ran.1 c.args.self.now.items c.append.new.list.items c.args.items ran.0 ran.2 (rw c.self.view_is at ran.3) ran.4

pub returns-clause-front : goal.returns-clause-front
returns-clause-front g c =
    let ran = c.append.ensures.ran in
    extended_front g.It.Iterator.next_gives c.append.result ran.1 c.args.self.now.items c.append.new.list.items c.args.items ran.0 ran.2 (rw c.self.view_is at ran.3) ran.4
