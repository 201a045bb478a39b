use Rattle.std.proofs.Common.{rules, [], subst}
use Rattle.std.specs.Prelude.{filter}
use Rattle.isle_core.specs.RuleViews.{rule}
use Rattle.isle_core.specs.StandsFor.{AreFirsts}
use Rattle.isle_rulesets.specs.Firsts.{are_two}
use Rattle.isle_rulesets.proofs.RuleSetLaws.{rule_added}
use Rattle.isle_rulesets.proofs.flat_rules.flat_rule.Goals as goal

pub returns : goal.returns
returns c =
    rule_added c.args.terms.now c.args.numbering.now c.begin_rule.new.self c.number_patterns.new.numbering c.number_expr.new.numbering (rule c.args.rule.now) c.in_ok-pattern_tests.pattern_tests _ _ c.lists.result.now c.in_ok-result.result _ c.requires.built c.requires.bound c.requires.terms
    c.begin_rule.ensures c.in_ok-pattern_tests.ensures.numbers (search rules) c.in_ok-result.ensures.numbers c.lists.ensures
    (record { constraints = rw c.new.ensures (subst (λ cs. AreFirsts [] cs c.in_ok-constraints.constraints.items) c.as_slice.ensures.value c.in_ok-constraints.ensures); equals = rw c.new-2.ensures (subst (λ es. AreFirsts [] (filter are_two es) c.in_ok-equals.equals.items) c.as_slice-3.ensures.value c.in_ok-equals.ensures); prio = search rules; pos = search rules; iterators = rw c.new-3.ensures c.in_ok-lists.ensures; ordered = rw c.new-4.ensures (subst (λ cs. AreFirsts [] cs c.in_ok-ordered.ordered.items) c.as_slice-2.ensures.value c.in_ok-ordered.ensures); result = search rules })
