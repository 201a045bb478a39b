use Rattle.std.proofs.Common.{map, take}
use Rattle.isle_core.specs.RuleViews.{rule}
use Rattle.isle_rulesets.specs.Grouping.{AreGroups}
use Rattle.isle_rulesets.proofs.grouping.group.Given as goal

abbrev pub invariant-loop-rule : goal.invariant-loop-rule
invariant-loop-rule l = AreGroups l.groups.items l.fn.count (map rule (take l.rule-index l.rules))
