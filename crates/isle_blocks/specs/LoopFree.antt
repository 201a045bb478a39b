-- Blocks without Loop.
use Rattle.isle_core.specs.Block.{Block, Stop, Step, Control, Match, Equal, Loop, Return, Arms, NoArm, Arm}

-- neither a block nor a block within it has a Loop
abbrev mutual
  pub HasNoLoop : Block → Type 0
  HasNoLoop Stop = Unit {0}
  HasNoLoop (Step order c more) = HasNoLoopWithin c × HasNoLoop more

  pub HasNoLoopWithin : Control → Type 0
  HasNoLoopWithin (Match source arms) = HaveNoLoop arms
  HasNoLoopWithin (Equal a b body) = HasNoLoop body
  HasNoLoopWithin (Loop result body) = ⊥
  HasNoLoopWithin (Return pos result) = Unit {0}

  pub HaveNoLoop : Arms → Type 0
  HaveNoLoop NoArm = Unit {0}
  HaveNoLoop (Arm c places body arms) = HasNoLoop body × HaveNoLoop arms
