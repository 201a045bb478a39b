use Rattle.std.proofs.Common.{take}
use Rattle.isle_checks.specs.Firsts.{Finds}
use Rattle.isle_checks.proofs.notes.compare.Given as goal

abbrev pub invariant-loop-other : goal.invariant-loop-other
invariant-loop-other l = Finds l.check l.makers (take l.other-index l.others) l.fn.found.items l.found.items
