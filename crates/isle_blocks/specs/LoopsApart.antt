-- Blocks whose Loops are each of one rule, with no test inside that could stand outside.
use Rattle.std.specs.Prelude.{◌≡◌, List, false, Contains}
use Rattle.isle_core.specs.declared.rule_sets.FlatRule.{FlatRule}
use Rattle.isle_core.specs.declared.rule_sets.RuleSet.{RuleSet}
use Rattle.isle_core.specs.Block.{Block, Stop, Step, Control, Match, Equal, Loop, Return, Arms, NoArm, Arm}
use Rattle.isle_core.specs.Path.{Path, at, paths_of}
use Rattle.isle_blocks.specs.Free.{is_free}

-- in a block and everywhere within it, an item is chosen for each source of a Match, and each Return is that of the rule
abbrev mutual
  pub IsOfRule : List Path → FlatRule → Block → Type 0
  IsOfRule ps f Stop = Unit {0}
  IsOfRule ps f (Step binds c more) = DoesForRule ps f c × IsOfRule ps f more

  -- so of what a step does
  pub DoesForRule : List Path → FlatRule → Control → Type 0
  DoesForRule ps f (Match source arms) = (is_free (at ps source) ≡ false) × HaveArmsOfRule ps f arms
  DoesForRule ps f (Equal a b body) = IsOfRule ps f body
  DoesForRule ps f (Loop result body) = IsOfRule ps f body
  DoesForRule ps f (Return pos result) = (f.pos ≡ pos) × (f.result ≡ result)

  -- so of arms
  pub HaveArmsOfRule : List Path → FlatRule → Arms → Type 0
  HaveArmsOfRule ps f NoArm = Unit {0}
  HaveArmsOfRule ps f (Arm c places body arms) = IsOfRule ps f body × HaveArmsOfRule ps f arms

-- what stands within a Loop is of one rule of the set
pub record IsOfOneRule (s : RuleSet) (body : Block) : Type 0 where
  pub rule : FlatRule
  pub there : Contains s.rules rule
  pub only : IsOfRule (paths_of s.bindings) rule body

-- in a block and everywhere within it, each Loop is of one rule
abbrev mutual
  pub HasLoopsApart : RuleSet → Block → Type 0
  HasLoopsApart s Stop = Unit {0}
  HasLoopsApart s (Step binds c more) = DoesLoopApart s c × HasLoopsApart s more

  -- so of what a step does
  pub DoesLoopApart : RuleSet → Control → Type 0
  DoesLoopApart s (Match source arms) = HaveLoopsApart s arms
  DoesLoopApart s (Equal a b body) = HasLoopsApart s body
  DoesLoopApart s (Loop result body) = IsOfOneRule s body
  DoesLoopApart s (Return pos result) = Unit {0}

  -- so of arms
  pub HaveLoopsApart : RuleSet → Arms → Type 0
  HaveLoopsApart s NoArm = Unit {0}
  HaveLoopsApart s (Arm c places body arms) = HasLoopsApart s body × HaveLoopsApart s arms
