-- Blocks that share their tests.
use Rattle.std.specs.Prelude.{◌≡◌}
use Rattle.isle_core.specs.declared.BindingId.{BindingId}
use Rattle.isle_core.specs.declared.rule_sets.Constraint.{Constraint}
use Rattle.isle_core.specs.Block.{Block, Stop, Step, Control, Match, Equal, Loop, Return, Arms, NoArm, Arm}

-- a Match of this source doesn't follow at once
abbrev pub NoMatchNext : BindingId → Block → Type 0
NoMatchNext source Stop = Unit {0}
NoMatchNext source (Step binds (Match over arms) more) = source ≡ over → ⊥
NoMatchNext source (Step binds (Equal a b body) more) = Unit {0}
NoMatchNext source (Step binds (Loop result body) more) = Unit {0}
NoMatchNext source (Step binds (Return pos result) more) = Unit {0}

-- nor after a Match its source's
abbrev pub AreNeighboursApart : Control → Block → Type 0
AreNeighboursApart (Match source arms) more = NoMatchNext source more
AreNeighboursApart (Equal a b body) more = Unit {0}
AreNeighboursApart (Loop result body) more = Unit {0}
AreNeighboursApart (Return pos result) more = Unit {0}

-- none of the arms has the constraint
abbrev pub IsNewArm : Constraint → Arms → Type 0
IsNewArm c NoArm = Unit {0}
IsNewArm c (Arm d places body arms) = (d ≡ c → ⊥) × IsNewArm c arms

-- in a block and in every block within it, the arms of a Match have different constraints, and no two neighbouring steps are a Match of one source
abbrev mutual
  pub IsMerged : Block → Type 0
  IsMerged Stop = Unit {0}
  IsMerged (Step binds c more) = IsMergedControl c × AreNeighboursApart c more × IsMerged more

  pub IsMergedControl : Control → Type 0
  IsMergedControl (Match source arms) = AreMergedArms arms
  IsMergedControl (Equal a b body) = IsMerged body
  IsMergedControl (Loop result body) = IsMerged body
  IsMergedControl (Return pos result) = Unit {0}

  pub AreMergedArms : Arms → Type 0
  AreMergedArms NoArm = Unit {0}
  AreMergedArms (Arm c places body arms) = IsNewArm c arms × IsMerged body × AreMergedArms arms
