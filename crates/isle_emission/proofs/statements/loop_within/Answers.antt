use Rattle.isle_emission.proofs.StatementSteps.{inside_loop}
use Rattle.isle_emission.proofs.statements.loop_within.Goals as goal

pub returns : goal.returns
returns c = rw (c.new.ensures) (inside_loop c.args.list c.args.item c.args.inside.items)
