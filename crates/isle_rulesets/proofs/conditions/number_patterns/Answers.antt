use Rattle.std.proofs.Common.{◌≡◌, sym, ap, map, subst}
use Rattle.isle_core.specs.RuleViews.{rule, iflet, pattern}
use Rattle.isle_core.specs.Rule.{Environment}
use Rattle.isle_rulesets.specs.Conditions.{with_iflets, NumbersRule}
use Rattle.isle_rulesets.specs.PatternTests.{NumbersPatterns}
use Rattle.isle_rulesets.proofs.ConditionLaws.{condition_built, condition_known, behind_there, behind_first, behind_next, behind_all, result_known}
use Rattle.isle_rulesets.proofs.conditions.number_patterns.Goals as goal

pub loop-condition-init : goal.loop-condition-init
loop-condition-init c =
    behind_first c.args.terms.now c.args.numbering.now (rule c.args.rule.now) c.as_slice-conditions.result.now (ap (map iflet) (sym c.as_slice-conditions.ensures)) c.requires.built c.requires.bound c.number_arguments.new.numbering c.in_ok-tests.tests
    (λ env same. subst (λ qs. NumbersPatterns env c.args.numbering.now c.number_arguments.new.numbering (map pattern qs) c.in_ok-tests.tests) c.as_slice.ensures (c.in_ok-tests.ensures env same))

pub number_condition-requires-clause-built : goal.number_condition-requires-clause-built
number_condition-requires-clause-built c =
    condition_built c.args.terms.now c.args.numbering.now (rule c.args.rule.now) c.as_slice-conditions.result.now (ap (map iflet) (sym c.as_slice-conditions.ensures)) c.requires.built c.requires.bound c.loop-condition.condition-index c.condition-item.result c.loop-condition-test.true c.condition-item.is

pub number_condition-requires-clause-known : goal.number_condition-requires-clause-known
number_condition-requires-clause-known c =
    condition_known c.args.terms.now c.args.numbering.now (rule c.args.rule.now) c.as_slice-conditions.result.now (ap (map iflet) (sym c.as_slice-conditions.ensures)) c.requires.built c.requires.bound c.loop-condition.numbering c.loop-condition.tests c.loop-condition.condition-index
    c.condition-item.result c.loop-condition-test.true c.condition-item.is c.loop-condition.invariant

pub number_condition-requires-clause-there : goal.number_condition-requires-clause-there
number_condition-requires-clause-there c =
    behind_there c.args.terms.now c.args.numbering.now (rule c.args.rule.now) c.as_slice-conditions.result.now (ap (map iflet) (sym c.as_slice-conditions.ensures)) c.requires.built c.requires.bound c.loop-condition.numbering c.loop-condition.tests c.loop-condition.condition-index c.loop-condition.invariant

pub loop-condition-preserved : goal.loop-condition-preserved
loop-condition-preserved c =
    behind_next c.args.terms.now c.args.numbering.now (rule c.args.rule.now) c.as_slice-conditions.result.now (ap (map iflet) (sym c.as_slice-conditions.ensures)) c.requires.built c.requires.bound c.loop-condition.numbering c.number_condition.new.numbering c.loop-condition.tests c.number_condition.new.tests
    c.loop-condition.condition-index c.condition-item.result c.loop-condition-test.true c.condition-item.is c.loop-condition.invariant c.in_ok-number_condition.ensures

pub returns-clause-known : goal.returns-clause-known
returns-clause-known c =
    result_known c.args.terms.now c.args.numbering.now (rule c.args.rule.now) c.as_slice-conditions.result.now (ap (map iflet) (sym c.as_slice-conditions.ensures)) c.requires.built c.requires.bound c.loop-condition.numbering c.loop-condition.tests c.loop-condition.condition-index c.loop-condition-test.false c.loop-condition.invariant

pub returns-clause-there : goal.returns-clause-there
returns-clause-there c =
    behind_there c.args.terms.now c.args.numbering.now (rule c.args.rule.now) c.as_slice-conditions.result.now (ap (map iflet) (sym c.as_slice-conditions.ensures)) c.requires.built c.requires.bound c.loop-condition.numbering c.loop-condition.tests c.loop-condition.condition-index c.loop-condition.invariant

pub returns-clause-numbers : goal.returns-clause-numbers
returns-clause-numbers c =
    subst (λ cs. (env : Environment) → env.terms ≡ c.args.terms.now → NumbersRule env c.args.numbering.now c.loop-condition.numbering (with_iflets (rule c.args.rule.now) (map iflet cs)) c.loop-condition.tests) c.as_slice-conditions.ensures
    (behind_all c.args.terms.now c.args.numbering.now (rule c.args.rule.now) c.as_slice-conditions.result.now (ap (map iflet) (sym c.as_slice-conditions.ensures)) c.requires.built c.requires.bound c.loop-condition.numbering c.loop-condition.tests c.loop-condition.condition-index c.loop-condition-test.false c.loop-condition.invariant)
