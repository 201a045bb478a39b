use Rattle.std.proofs.Common.{take}
use Rattle.isle_blocks.proofs.TurnLaws.{NoneLater}
use Rattle.isle_blocks.proofs.turns.turn_after.Given as goal

abbrev pub invariant-loop-part : goal.invariant-loop-part
invariant-loop-part l = NoneLater l.turns (take l.part-index l.parts) l.turn
