-- What a block tests and returns, as the rules of its set have it.
use Rattle.std.specs.Prelude.{◌≡◌, Contains}
use Rattle.isle_core.specs.declared.BindingId.{BindingId}
use Rattle.isle_core.specs.declared.position.Pos.{Pos}
use Rattle.isle_core.specs.declared.rule_sets.Constraint.{Constraint}
use Rattle.isle_core.specs.declared.rule_sets.FlatRule.{FlatRule}
use Rattle.isle_core.specs.declared.rule_sets.RuleSet.{RuleSet}
use Rattle.isle_core.specs.Block.{Block, Stop, Step, Control, Match, Equal, Loop, Return, Arms, NoArm, Arm}

-- a constraint that one rule of the set has on the source
pub record IsRuleTest (s : RuleSet) (source : BindingId) (c : Constraint) : Type 0 where
  pub rule : FlatRule
  pub there : Contains s.rules rule
  pub tests : Contains rule.constraints (source, c)

-- two bindings that one rule of the set equates
pub record IsRuleEquality (s : RuleSet) (a b : BindingId) : Type 0 where
  pub rule : FlatRule
  pub there : Contains s.rules rule
  pub equated : Contains rule.equals (a, b)

-- the position and the result of one rule of the set
pub record IsRuleReturn (s : RuleSet) (pos : Pos) (result : BindingId) : Type 0 where
  pub rule : FlatRule
  pub there : Contains s.rules rule
  pub position : rule.pos ≡ pos
  pub gives : rule.result ≡ result

-- a block tests nothing that no rule of the set tests, and each of its Returns is that of one rule
abbrev mutual
  pub TestsRules : RuleSet → Block → Type 0
  TestsRules s Stop = Unit {0}
  TestsRules s (Step binds c more) = DoesRules s c × TestsRules s more

  -- so of what a step does
  pub DoesRules : RuleSet → Control → Type 0
  DoesRules s (Match source arms) = ArmsTestRules s source arms
  DoesRules s (Equal a b body) = IsRuleEquality s a b × TestsRules s body
  DoesRules s (Loop result body) = TestsRules s body
  DoesRules s (Return pos result) = IsRuleReturn s pos result

  -- so of the arms over a source
  pub ArmsTestRules : RuleSet → BindingId → Arms → Type 0
  ArmsTestRules s source NoArm = Unit {0}
  ArmsTestRules s source (Arm c places body arms) =
      IsRuleTest s source c × TestsRules s body × ArmsTestRules s source arms
