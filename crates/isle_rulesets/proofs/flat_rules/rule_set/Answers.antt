use Rattle.isle_core.specs.RuleViews.{rules as seen}
use Rattle.isle_core.specs.BuiltRule.{IsBuiltRule, CallsBuiltTerms}
use Rattle.isle_core.specs.Scope.{IsScopedRule}
use Rattle.isle_rulesets.proofs.RuleSetLaws.{rule_at, covers_more, covers_all, covers_stands}
use Rattle.isle_rulesets.proofs.flat_rules.rule_set.Goals as goal

pub flat_rule-requires-clause-built : goal.flat_rule-requires-clause-built
flat_rule-requires-clause-built c = rule_at (IsBuiltRule c.args.terms.now) c.args.rules.now c.loop-rule.rule-index c.rule-item.result c.requires.built c.loop-rule-test.true c.rule-item.is

pub flat_rule-requires-clause-bound : goal.flat_rule-requires-clause-bound
flat_rule-requires-clause-bound c = rule_at IsScopedRule c.args.rules.now c.loop-rule.rule-index c.rule-item.result c.requires.bound c.loop-rule-test.true c.rule-item.is

pub flat_rule-requires-clause-terms : goal.flat_rule-requires-clause-terms
flat_rule-requires-clause-terms c = rule_at (CallsBuiltTerms c.args.terms.now) c.args.rules.now c.loop-rule.rule-index c.rule-item.result c.requires.terms c.loop-rule-test.true c.rule-item.is

pub loop-rule-preserved : goal.loop-rule-preserved
loop-rule-preserved c =
    covers_more c.args.terms.now c.loop-rule.numbering c.flat_rule.new.numbering c.args.rules.now c.loop-rule.rule-index c.rule-item.result c.loop-rule.flat_rules.items c.push.new.self.items c.in_ok-flat_rule.field-0
    c.loop-rule-test.true c.rule-item.is c.loop-rule.invariant c.in_ok-flat_rule.ensures c.in_ok-push.ensures.items

pub returns : goal.returns
returns c =
    let covers = covers_all c.args.terms.now c.loop-rule.numbering c.args.rules.now c.loop-rule.rule-index c.loop-rule.flat_rules.items c.loop-rule-test.false c.loop-rule.invariant in
    covers_stands c.args.terms.now _ c.into_bindings.result.items c.loop-rule.numbering (seen c.args.rules.now) c.loop-rule.flat_rules.items covers c.into_bindings.ensures.once c.into_bindings.ensures.bindings c.new.ensures c.new-2.ensures
