use Rattle.std.proofs.Common.{map}
use Rattle.isle_core.specs.RuleViews.{rule}
use Rattle.isle_rulesets.proofs.GroupingLaws.{SetsIn}
use Rattle.isle_rulesets.proofs.grouping.rule_sets.Given as goal

abbrev pub invariant-loop-index : goal.invariant-loop-index
invariant-loop-index l = SetsIn l.terms.terms (map rule l.terms.rules) l.index l.sets.items
