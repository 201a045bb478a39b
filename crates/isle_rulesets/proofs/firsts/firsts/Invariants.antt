use Rattle.isle_rulesets.proofs.FirstLaws.{FirstsSoFar}
use Rattle.isle_rulesets.proofs.firsts.firsts.Given as goal

abbrev pub invariant-loop-item : goal.invariant-loop-item
invariant-loop-item g l = FirstsSoFar l.items l.seen.keys l.found.items l.item-index
