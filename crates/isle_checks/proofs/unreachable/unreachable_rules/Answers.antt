use Rattle.std.proofs.Common.{rules}
use Rattle.isle_checks.proofs.ClashLaws.{unreachable_more}
use Rattle.isle_checks.proofs.unreachable.unreachable_rules.Goals as goal

pub loop-rule-preserved : goal.loop-rule-preserved
loop-rule-preserved c =
    unreachable_more c.args.rules.now c.loop-rule.rule-index c.rule-item.result c.in_ok-is_unreachable.field-0 c.loop-rule.found.items c.push.new.self.items (search rules) c.rule-item.is c.in_ok-is_unreachable.ensures c.in_ok-push.ensures.items c.loop-rule.invariant
