use Rattle.std.proofs.Common.{◌≡◌, [], ◌∷◌, ◌++◌, true, false, map, rules, sym, ap, ◌∙◌, subst, append_assoc}
use Rattle.isle_core.specs.RuleViews.{pattern as elaborated_pattern, iflet as elaborated}
use Rattle.isle_templates.specs.CountedConditions.{AreConditionsTaken}
use Rattle.isle_templates.specs.Elaborated.{condition_expanded}
use Rattle.isle_templates.specs.Substituted.{expanded}
use Rattle.isle_templates.proofs.ConditionSteps.{too_many, conditions_more}
use Rattle.isle_templates.proofs.conditions.iflets_expanded.Goals as goal

pub returns-then-not-branch : goal.returns-then-not-branch
returns-then-not-branch c = λ whole stands.
    let step : c.loop-lhs.lhs-iterator.rest.items ≡ c.in-Some.field-0 ∷ c.next.new.self.rest.items = search rules in
    let before = map (condition_expanded whole) (map elaborated c.loop-lhs.yielded) in
    let here = condition_expanded whole (elaborated c.in-Some.field-0) in
    let refused : AreConditionsTaken false c.args.base (before ++ here ∷ []) c.push.new.self =
    subst (λ b. AreConditionsTaken b c.args.base (before ++ here ∷ []) c.push.new.self) c.if-not-branch.true (c.in_ok-push.ensures c.args.base before (expanded whole (elaborated_pattern c.in-Some.field-0.lhs)) (c.loop-lhs.invariant.conditions whole stands) (c.in_ok-lhs.ensures whole stands)) in
    too_many (condition_expanded whole) c.args.base c.args.iflets.items c.loop-lhs.yielded c.next.new.self.rest.items c.in-Some.field-0 (ap (λ xs. c.loop-lhs.yielded ++ xs) (sym step) ∙ c.loop-lhs.invariant.all) refused

pub loop-lhs-preserved : goal.loop-lhs-preserved
loop-lhs-preserved c = record {
  all =
      let step : c.loop-lhs.lhs-iterator.rest.items ≡ c.in-Some.field-0 ∷ c.next.new.self.rest.items = search rules in
      append_assoc c.loop-lhs.yielded (c.in-Some.field-0 ∷ []) c.next.new.self.rest.items ∙ ap (λ xs. c.loop-lhs.yielded ++ xs) (sym step) ∙ c.loop-lhs.invariant.all;
  conditions = λ whole stands.
      let before = map (condition_expanded whole) (map elaborated c.loop-lhs.yielded) in
      let here = condition_expanded whole (elaborated c.in-Some.field-0) in
      let taken : AreConditionsTaken true c.args.base (before ++ here ∷ []) c.push.new.self =
      subst (λ b. AreConditionsTaken b c.args.base (before ++ here ∷ []) c.push.new.self) c.if-not-branch.false (c.in_ok-push.ensures c.args.base before (expanded whole (elaborated_pattern c.in-Some.field-0.lhs)) (c.loop-lhs.invariant.conditions whole stands) (c.in_ok-lhs.ensures whole stands)) in
      conditions_more (condition_expanded whole) c.args.base c.loop-lhs.yielded c.in-Some.field-0 c.push.new.self taken;
}
