use Rattle.std.proofs.Common.{take}
use Rattle.isle_core.specs.RuleViews.{rules}
use Rattle.isle_rulesets.proofs.RuleSetLaws.{CoversIn}
use Rattle.isle_rulesets.proofs.flat_rules.rule_set.Given as goal

abbrev pub invariant-loop-rule : goal.invariant-loop-rule
invariant-loop-rule l = CoversIn l.terms l.numbering (rules (take l.rule-index l.rules)) l.flat_rules.items
