use Rattle.isle_blocks.proofs.GrowsLaws.{grows_then, push_grows, where_ok}
use Rattle.isle_blocks.proofs.nest.+equals_from.Goals as goal

pub returns-in_ok-check-in-len1-up-clause-grows : goal.returns-in_ok-check-in-len1-up-clause-grows
returns-in_ok-check-in-len1-up-clause-grows t c = where_ok c.opened.result (grows_then (push_grows c.in_ok-push_needs-in-len1-up.ensures) c.in_ok-inner-in-len1-up.ensures.grows)
