-- The positions of the Returns of a block, in order.
use Rattle.std.specs.Prelude.{List, [], ◌∷◌, ◌++◌, map, Contains}
use Rattle.std.specs.List.{AllByRecursion}
use Rattle.isle_core.specs.declared.position.Pos.{Pos}
use Rattle.isle_core.specs.declared.rule_sets.FlatRule.{FlatRule}
use Rattle.isle_core.specs.Block.{Block, Stop, Step, Control, Match, Equal, Loop, Return, Arms, NoArm, Arm}

-- those of a block, of what a step does, and of arms
abbrev mutual
  pub return_positions : Block → List Pos
  return_positions Stop = []
  return_positions (Step bs c more) = control_positions c ++ return_positions more

  pub control_positions : Control → List Pos
  control_positions (Match source arms) = arms_positions arms
  control_positions (Equal a b body) = return_positions body
  control_positions (Loop result body) = return_positions body
  control_positions (Return pos result) = pos ∷ []

  pub arms_positions : Arms → List Pos
  arms_positions NoArm = []
  arms_positions (Arm c places body arms) = return_positions body ++ arms_positions arms

-- each is the position of one of these rules
abbrev pub ArePositionsOf : List FlatRule → List Pos → Type 0
ArePositionsOf fs = AllByRecursion (Contains (map (λ (f : FlatRule). f.pos) fs))
