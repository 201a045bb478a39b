use Rattle.isle_running.proofs.SourceLaws.{puts_there}
use Rattle.isle_running.proofs.sources.put_at.Goals as goal

pub returns : goal.returns
returns c = puts_there c.args.found.now c.insert.new.self c.args.name.now c.args.given c.in_ok-insert.ensures.updates
