use Rattle.isle_blocks.proofs.GrowsLaws.{push_grows, where_ok}
use Rattle.isle_blocks.proofs.nest.last_step.Goals as goal

pub returns-clause-grows : goal.returns-clause-grows
returns-clause-grows c = where_ok c.opened.result (push_grows c.in_ok-push_last.ensures)
