use Rattle.std.proofs.Common.{take}
use Rattle.isle_checks.specs.Classes.{representative}
use Rattle.isle_checks.proofs.ClashLaws.{AreSeen}
use Rattle.isle_checks.proofs.unreachable.have_clash.Given as goal

abbrev pub invariant-loop-x : goal.invariant-loop-x
invariant-loop-x l = AreSeen (representative l.classes.representatives) (take l.x-index l.constraints) l.seen
