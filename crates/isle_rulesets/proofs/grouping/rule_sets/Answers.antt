use Rattle.std.proofs.Common.{rules, map, length, refl, sym, subst}
use Rattle.std.specs.Prelude.{All}
use Rattle.isle_core.specs.RuleViews.{rule}
use Rattle.isle_core.specs.BuiltRule.{IsBuiltRule, CallsBuiltTerms}
use Rattle.isle_core.specs.Scope.{IsScopedRule}
use Rattle.isle_rulesets.proofs.GroupingLaws.{group_seen, group_all, sets_push, sets_skip, sets_over, not_empty, is_none}
use Rattle.isle_rulesets.proofs.grouping.rule_sets.Goals as goal
use Rattle.isle_rulesets.proofs.grouping.rule_sets.Goals.{then-not-is_empty+in_ok-rule_set+in_ok-push, else-not-is_empty}

pub rule_set-requires-clause-built : goal.rule_set-requires-clause-built
rule_set-requires-clause-built c =
    group_all (IsBuiltRule c.as_slice-callable.result.now) (map rule c.args.terms.now.rules) c.loop-index.index c.deref.result.now
    (group_seen c.in_ok-groups.groups.items c.deref-rules-items.result.now _ c.as_slice.result.now c.args.terms.now.rules c.loop-index.index c.rules-item.result c.deref.result.now c.in_ok-groups.ensures (search rules) c.deref-rules-items.ensures.value
    (search rules) c.rules-item.is c.deref.ensures.value) (subst (λ ts. All (IsBuiltRule ts) (map rule c.args.terms.now.rules)) (sym c.as_slice-callable.ensures) c.requires.built)

pub rule_set-requires-clause-bound : goal.rule_set-requires-clause-bound
rule_set-requires-clause-bound c =
    group_all IsScopedRule (map rule c.args.terms.now.rules) c.loop-index.index c.deref.result.now
    (group_seen c.in_ok-groups.groups.items c.deref-rules-items.result.now _ c.as_slice.result.now c.args.terms.now.rules c.loop-index.index c.rules-item.result c.deref.result.now c.in_ok-groups.ensures (search rules) c.deref-rules-items.ensures.value
    (search rules) c.rules-item.is c.deref.ensures.value) c.requires.bound

pub rule_set-requires-clause-terms : goal.rule_set-requires-clause-terms
rule_set-requires-clause-terms c =
    group_all (CallsBuiltTerms c.as_slice-callable.result.now) (map rule c.args.terms.now.rules) c.loop-index.index c.deref.result.now
    (group_seen c.in_ok-groups.groups.items c.deref-rules-items.result.now _ c.as_slice.result.now c.args.terms.now.rules c.loop-index.index c.rules-item.result c.deref.result.now c.in_ok-groups.ensures (search rules) c.deref-rules-items.ensures.value
    (search rules) c.rules-item.is c.deref.ensures.value) (subst (λ ts. All (CallsBuiltTerms ts) (map rule c.args.terms.now.rules)) (sym c.as_slice-callable.ensures) c.requires.terms)

pub loop-index-preserved : goal.loop-index-preserved
loop-index-preserved c = elim c.if-not-is_empty.branch [
  | then-not-is_empty+in_ok-rule_set+in_ok-push w ↦
      rw w.sets-is
      (sets_push c.args.terms.now.terms c.as_slice-callable.result.now (map rule c.args.terms.now.rules) c.loop-index.index w.deref.result.now c.loop-index.sets.items w.push.new.self.items w.in_ok-rule_set.field-0
      (group_seen c.in_ok-groups.groups.items c.deref-rules-items.result.now _ c.as_slice.result.now c.args.terms.now.rules c.loop-index.index c.rules-item.result w.deref.result.now c.in_ok-groups.ensures (search rules) c.deref-rules-items.ensures.value
      (search rules) c.rules-item.is w.deref.ensures.value)
      (not_empty c.is_empty.result _ (length w.deref.result.now) c.is_empty.ensures w.if-not-is_empty.true w.deref.ensures.len) c.loop-index.invariant (search rules) w.in_ok-rule_set.ensures w.in_ok-push.ensures.items)
  | else-not-is_empty w ↦
      rw w.sets-is
      (sets_skip c.args.terms.now.terms (map rule c.args.terms.now.rules) c.loop-index.index c.rules-item.result.items c.loop-index.sets.items
      (group_seen c.in_ok-groups.groups.items c.deref-rules-items.result.now _ c.as_slice.result.now c.args.terms.now.rules c.loop-index.index c.rules-item.result c.rules-item.result.items c.in_ok-groups.ensures (search rules) c.deref-rules-items.ensures.value
      (search rules) c.rules-item.is refl)
      (is_none c.is_empty.result _ (length c.rules-item.result.items) c.is_empty.ensures w.if-not-is_empty.false (search rules)) c.loop-index.invariant)
]

pub returns : goal.returns
returns c = λ types. sets_over types c.args.terms.now c.loop-index.index c.loop-index.sets.items (search rules) c.loop-index.invariant
