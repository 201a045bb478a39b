use Rattle.std.proofs.Common.{rules}
use Rattle.isle_core.specs.RuleViews.{rule}
use Rattle.isle_templates.proofs.OrderSteps.{order_joined}
use Rattle.isle_templates.proofs.variables.order_of.Goals as goal

pub returns : goal.returns
returns c = order_joined (rule c.args.given.now) c.join_patterns.new.order c.join_iflets.new.order c.join_expr.new.order (search rules) (search rules) (search rules)
