-- How heavy a block is.
use Rattle.std.specs.Prelude.{ℕ, ◌+◌, ◌-◌, ◌^◌, min}
use Rattle.isle_core.specs.Block.{Block, Stop, Step, Control, Match, Equal, Loop, Return, Arms, NoArm, Arm}

-- how many steps a block has, those of bodies in it too
abbrev mutual
  pub steps_in : Block → ℕ
  steps_in Stop = 0
  steps_in (Step binds c more) = 1 + steps_within c + steps_in more

  -- so what a step has in it
  pub steps_within : Control → ℕ
  steps_within (Match source arms) = steps_of arms
  steps_within (Equal a b body) = steps_in body
  steps_within (Loop result body) = steps_in body
  steps_within (Return pos result) = 0

  -- and the bodies of arms
  pub steps_of : Arms → ℕ
  steps_of NoArm = 0
  steps_of (Arm c places body arms) = steps_in body + steps_of arms

-- the weight of a block: its steps, or the largest number of a machine's word if they are more
abbrev pub block_weight : Block → ℕ
block_weight b = min (steps_in b) (2 ^ 64 - 1)
