use Rattle.std.proofs.Common.{take}
use Rattle.isle_checks.specs.Classes.{AreClasses}
use Rattle.isle_checks.proofs.unreachable.joined.Given as goal

abbrev pub invariant-loop-x : goal.invariant-loop-x
invariant-loop-x l = AreClasses (take l.x-index l.equals) l.classes
