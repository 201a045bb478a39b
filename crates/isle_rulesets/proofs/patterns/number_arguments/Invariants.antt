use Rattle.std.proofs.Common.{map, drop}
use Rattle.isle_core.specs.RuleViews.{pattern}
use Rattle.isle_rulesets.proofs.PatternTestLaws.{ArgumentsSoFar}
use Rattle.isle_rulesets.proofs.patterns.number_arguments.Given as goal

abbrev pub invariant-loop-index : goal.invariant-loop-index
invariant-loop-index l = ArgumentsSoFar l.terms l.fn.numbering l.numbering l.tests (map pattern l.patterns) (map pattern (drop l.index l.patterns)) l.index
