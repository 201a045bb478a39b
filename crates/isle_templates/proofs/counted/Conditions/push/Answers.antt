use Rattle.std.proofs.Common.{rules}
use Rattle.isle_templates.proofs.ConditionSteps.{none_taken, not_taken, taken}
use Rattle.isle_templates.proofs.counted.Conditions.push.Goals as goal

pub returns-in_default : goal.returns-in_default
returns-in_default c = λ base cs p are h. none_taken base cs p c.args.lhs c.args.rhs c.in_default.is h

pub returns-then-nodes-gt-MOST_NODES : goal.returns-then-nodes-gt-MOST_NODES
returns-then-nodes-gt-MOST_NODES c = λ base cs p are h.
    not_taken base cs p c.args.self.now c.args.lhs c.args.rhs c.in-Some.field-0 c.expr_nodes.result c.saturating_add-more.result c.saturating_add-nodes.result c.in-Some.is are h c.expr_nodes.ensures (search rules) c.saturating_add-nodes.ensures c.if-nodes-gt-MOST_NODES.true

pub returns : goal.returns
returns c = λ base cs p are h.
    taken base cs p c.args.self.now (record { iflets = c.push.new.self; nodes = c.saturating_add-nodes.result; small = c.if-nodes-gt-MOST_NODES.false }) c.args.lhs c.args.rhs c.in-Some.field-0 c.expr_nodes.result c.saturating_add-more.result c.in-Some.is are h c.expr_nodes.ensures (search rules) c.saturating_add-nodes.ensures (search rules)
