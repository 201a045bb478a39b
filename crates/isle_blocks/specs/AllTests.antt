-- How the block of a rule set makes the tests of its rules.
use Rattle.std.specs.Prelude.{◌≡◌, ◌⊎◌, List, [], Bool, true, false, Contains}
use Rattle.std.specs.List.{AllByRecursion}
use Rattle.isle_core.specs.declared.BindingId.{BindingId}
use Rattle.isle_core.specs.declared.rule_sets.Constraint.{Constraint}
use Rattle.isle_core.specs.declared.rule_sets.FlatRule.{FlatRule}
use Rattle.isle_core.specs.declared.rule_sets.RuleSet.{RuleSet}
use Rattle.isle_core.specs.Block.{Block, Stop, Step, Control, Match, Equal, Loop, Return, Arms, NoArm, Arm}
use Rattle.isle_blocks.specs.Order.{is_above}

-- somewhere in a block an arm over the source tests the constraint
abbrev mutual
  pub HoldsTest : BindingId → Constraint → Block → Type 0
  HoldsTest source c Stop = ⊥
  HoldsTest source c (Step binds control more) = DoesTest source c control ⊎ HoldsTest source c more

  -- so within what a step does
  pub DoesTest : BindingId → Constraint → Control → Type 0
  DoesTest source c (Match over arms) = ((over ≡ source) × HasArm c arms) ⊎ HasTestWithin source c arms
  DoesTest source c (Equal a b body) = HoldsTest source c body
  DoesTest source c (Loop result body) = HoldsTest source c body
  DoesTest source c (Return pos result) = ⊥

  -- so within one of the arms
  pub HasTestWithin : BindingId → Constraint → Arms → Type 0
  HasTestWithin source c NoArm = ⊥
  HasTestWithin source c (Arm d places body arms) = HoldsTest source c body ⊎ HasTestWithin source c arms

  -- one of the arms tests the constraint
  pub HasArm : Constraint → Arms → Type 0
  HasArm c NoArm = ⊥
  HasArm c (Arm d places body arms) = (d ≡ c) ⊎ HasArm c arms

-- each of these tests is among those
abbrev pub AreAmong : List (BindingId × Constraint) → List (BindingId × Constraint) → Type 0
AreAmong cs among = AllByRecursion (Contains among) cs

-- all tests of all rules are tried if the term answers several times; if it answers once, a test of a rule that is above each rule without
-- equalities whose constraints are among its own, but for those that make the test themselves
abbrev pub IsTried : (several : Bool) → List FlatRule → FlatRule → BindingId × Constraint → Type 0
IsTried true rules f c = Unit {0}
IsTried false rules f c =
    (g : FlatRule) → Contains rules g → g.equals ≡ [] → AreAmong g.constraints f.constraints
    → Contains g.constraints c ⊎ (is_above f g ≡ true)

-- each test of a rule that is tried stands in the block
abbrev pub MakesTests : (several : Bool) → RuleSet → Block → Type 0
MakesTests several set b =
    (f : FlatRule) (source : BindingId) (c : Constraint)
    → Contains set.rules f → Contains f.constraints (source, c) → IsTried several set.rules f (source, c) → HoldsTest source c b
