use Rattle.std.proofs.Common.{map, rules, ap, ◌∙◌, subst}
use Rattle.isle_core.specs.RuleViews.{pattern as elaborated_pattern, iflet as elaborated, rule}
use Rattle.isle_templates.specs.Counted.{AreCounted}
use Rattle.isle_templates.specs.CountedConditions.{AreConditionsCounted}
use Rattle.isle_templates.specs.Elaborated.{condition_expanded}
use Rattle.isle_templates.specs.Substituted.{expanded}
use Rattle.isle_templates.proofs.ConditionSteps.{large_args, large_conditions, few_nodes, rule_made}
use Rattle.isle_templates.proofs.rules.rule_expanded.Goals as goal

pub returns-in_default : goal.returns-in_default
returns-in_default c = λ whole stands.
    let args = subst (λ xs. AreCounted c.expr_nodes-nodes.result (map (expanded whole) (map elaborated_pattern xs)) c.in_ok-args.field-0) c.as_slice.ensures (c.in_ok-args.ensures whole stands) in
    large_args whole (rule c.args.given) c.expr_nodes-nodes.result c.expr_nodes-nodes.ensures (subst (AreCounted c.expr_nodes-nodes.result (map (expanded whole) (map elaborated_pattern c.args.given.args))) c.in_default.is args)

pub returns-in_default-2 : goal.returns-in_default-2
returns-in_default-2 c = λ whole stands.
    let args = subst (λ xs. AreCounted c.expr_nodes-nodes.result (map (expanded whole) (map elaborated_pattern xs)) c.in_ok-args.field-0) c.as_slice.ensures (c.in_ok-args.ensures whole stands) in
    let parts = subst (AreCounted c.expr_nodes-nodes.result (map (expanded whole) (map elaborated_pattern c.args.given.args))) c.in-Some.is args in
    let conditions = subst (λ xs. AreConditionsCounted c.in-Some.args.nodes (map (condition_expanded whole) (map elaborated xs)) c.in_ok-conditions.field-0) c.into_vec-iflets.ensures (c.in_ok-conditions.ensures whole stands) in
    large_conditions whole (rule c.args.given) c.expr_nodes-nodes.result c.in-Some.args.nodes c.expr_nodes-nodes.ensures parts.1
    (subst (AreConditionsCounted c.in-Some.args.nodes (map (condition_expanded whole) (map elaborated c.args.given.iflets))) c.in_default-2.is conditions)

pub returns : goal.returns
returns c = λ whole stands.
    let args = subst (λ xs. AreCounted c.expr_nodes-nodes.result (map (expanded whole) (map elaborated_pattern xs)) c.in_ok-args.field-0) c.as_slice.ensures (c.in_ok-args.ensures whole stands) in
    let parts = subst (AreCounted c.expr_nodes-nodes.result (map (expanded whole) (map elaborated_pattern c.args.given.args))) c.in-Some.is args in
    let all = subst (λ xs. AreConditionsCounted c.in-Some.args.nodes (map (condition_expanded whole) (map elaborated xs)) c.in_ok-conditions.field-0) c.into_vec-iflets.ensures (c.in_ok-conditions.ensures whole stands) in
    let conditions = subst (AreConditionsCounted c.in-Some.args.nodes (map (condition_expanded whole) (map elaborated c.args.given.iflets))) c.in-Some-2.is all in (
      rule_made whole (rule c.args.given) (map elaborated_pattern c.new.result) (map elaborated c.new-2.result) _ (ap (map elaborated_pattern) c.new.ensures ∙ parts.0) (ap (map elaborated) c.new-2.ensures ∙ conditions.0) (search rules),
      few_nodes whole (rule c.args.given) c.expr_nodes-nodes.result c.in-Some.args.nodes c.in-Some-2.conditions.nodes c.expr_nodes-nodes.ensures c.if-nodes-gt-MOST_NODES.false parts.1 conditions.1 c.in-Some-2.conditions.small,
    )
