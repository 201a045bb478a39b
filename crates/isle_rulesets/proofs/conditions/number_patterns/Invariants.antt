use Rattle.isle_core.specs.RuleViews.{rule}
use Rattle.isle_rulesets.proofs.ConditionLaws.{SoFar}
use Rattle.isle_rulesets.proofs.conditions.number_patterns.Given as goal

abbrev pub invariant-loop-condition : goal.invariant-loop-condition
invariant-loop-condition l = SoFar l.terms l.fn.numbering (rule l.rule) l.conditions l.numbering l.tests l.condition-index
