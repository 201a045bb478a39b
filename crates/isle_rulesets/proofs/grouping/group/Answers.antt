use Rattle.std.proofs.Common.{sym, rules, map, take}
use Rattle.isle_core.specs.RuleViews.{rule}
use Rattle.isle_rulesets.proofs.GroupingLaws.{groups_push, groups_skip, rules_more, get_at}
use Rattle.isle_rulesets.proofs.grouping.group.Goals as goal
use Rattle.isle_rulesets.proofs.grouping.group.Goals.{then-term-len+in_ok-push, else-term-len}

pub loop-rule-preserved : goal.loop-rule-preserved
loop-rule-preserved c = elim c.if-term-len.branch [
  | then-term-len+in_ok-push w ↦
      rw w.groups-is
      (rules_more _ c.args.count c.args.rules.now c.loop-rule.rule-index c.rule-item.result c.loop-rule-test.true c.rule-item.is
      (groups_push c.loop-rule.groups.items c.args.count (map rule (take c.loop-rule.rule-index c.args.rules.now)) _ c.index-term.result w.index_mut.result.now w.push.new.self (sym c.index-term.ensures) c.loop-rule.invariant
      (get_at c.loop-rule.groups.items c.index-term.result w.index_mut.result.now (search rules) w.index_mut.ensures.value) w.in_ok-push.ensures.items))
  | else-term-len w ↦
      rw w.groups-is
      (rules_more c.loop-rule.groups.items c.args.count c.args.rules.now c.loop-rule.rule-index c.rule-item.result c.loop-rule-test.true c.rule-item.is
      (groups_skip c.loop-rule.groups.items c.args.count (map rule (take c.loop-rule.rule-index c.args.rules.now)) (rule c.rule-item.result) (search rules) c.loop-rule.invariant))
]
