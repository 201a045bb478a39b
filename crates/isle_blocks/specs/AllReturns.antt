-- How the block of a rule set returns what its rules give.
use Rattle.std.specs.Prelude.{◌≡◌, ◌⊎◌, List, [], Bool, true, false, Contains}
use Rattle.isle_core.specs.declared.rule_sets.FlatRule.{FlatRule}
use Rattle.isle_core.specs.declared.rule_sets.RuleSet.{RuleSet}
use Rattle.isle_core.specs.Block.{Block, Stop, Step, Control, Match, Equal, Loop, Return, Arms, NoArm, Arm}
use Rattle.isle_blocks.specs.AllTests.{AreAmong}
use Rattle.isle_blocks.specs.Order.{is_above}

-- somewhere in a block stands the Return of a rule, with its position and its result
abbrev mutual
  pub HoldsReturn : FlatRule → Block → Type 0
  HoldsReturn f Stop = ⊥
  HoldsReturn f (Step binds control more) = DoesReturn f control ⊎ HoldsReturn f more

  -- so within what a step does
  pub DoesReturn : FlatRule → Control → Type 0
  DoesReturn f (Match over arms) = HasReturnWithin f arms
  DoesReturn f (Equal a b body) = HoldsReturn f body
  DoesReturn f (Loop item body) = HoldsReturn f body
  DoesReturn f (Return pos result) = (f.pos ≡ pos) × (f.result ≡ result)

  -- so within one of the arms
  pub HasReturnWithin : FlatRule → Arms → Type 0
  HasReturnWithin f NoArm = ⊥
  HasReturnWithin f (Arm c places body arms) = HoldsReturn f body ⊎ HasReturnWithin f arms

-- each rule is reached if the term answers several times; if it answers once, a rule that is above each other one without equalities whose
-- constraints are among its own
abbrev pub IsReached : (several : Bool) → List FlatRule → FlatRule → Type 0
IsReached true rules f = Unit {0}
IsReached false rules f =
    (g : FlatRule) → Contains rules g → g.equals ≡ [] → AreAmong g.constraints f.constraints
    → (g ≡ f) ⊎ (is_above f g ≡ true)

-- each rule that is reached has its Return in the block
abbrev pub MakesReturns : (several : Bool) → RuleSet → Block → Type 0
MakesReturns several set b = (f : FlatRule) → Contains set.rules f → IsReached several set.rules f → HoldsReturn f b
