use Rattle.std.proofs.Common.{subst}
use Rattle.isle_core.specs.RuleViews.{iflet}
use Rattle.isle_rulesets.specs.Conditions.{FindsAll}
use Rattle.isle_rulesets.proofs.ConditionCalls.{terms_built}
use Rattle.isle_rulesets.proofs.ConditionLaws.{takes_condition, value_there}
use Rattle.isle_rulesets.proofs.conditions.number_condition.Goals as goal

pub number_expr-requires-clause-terms : goal.number_expr-requires-clause-terms
number_expr-requires-clause-terms c = terms_built (iflet c.args.condition.now).rhs c.args.terms.now c.requires.built.calls

pub number_pattern-requires-clause-there : goal.number_pattern-requires-clause-there
number_pattern-requires-clause-there c =
    value_there c.args.terms.now c.args.tests.now.variables c.args.numbering.now c.number_expr.new.numbering c.new-calls.result.items c.number_expr.new.ordered.items (iflet c.args.condition.now).rhs c.in_ok-value.value c.requires.there c.in_ok-value.ensures.numbers

pub returns : goal.returns
returns c =
    takes_condition c.number_pattern.result c.args.terms.now c.args.numbering.now c.number_expr.new.numbering c.number_pattern.new.numbering c.args.tests.now c.constrain_calls.new.tests c.number_pattern.new.tests c.new-calls.result.items c.number_expr.new.ordered.items (iflet c.args.condition.now) c.in_ok-value.value
    c.requires.built c.new-calls.ensures.items c.in_ok-value.ensures.numbers
    (subst (λ vs. FindsAll (record { constraints = c.args.tests.now.constraints; equals = c.args.tests.now.equals; variables = vs }) c.constrain_calls.new.tests c.number_expr.new.ordered.items) c.in_ok-value.ensures.kept
    (subst (λ bs. FindsAll (record { constraints = c.args.tests.now.constraints; equals = c.args.tests.now.equals; variables = c.number_expr.new.scope }) c.constrain_calls.new.tests bs) c.as_slice.ensures.value c.in_ok-constrain_calls.ensures))
    c.number_pattern.ensures
