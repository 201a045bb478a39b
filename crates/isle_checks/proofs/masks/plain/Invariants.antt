use Rattle.std.proofs.Common.{take}
use Rattle.isle_checks.specs.Masks.{ArePlain}
use Rattle.isle_checks.proofs.masks.plain.Given as goal

abbrev pub invariant-loop-placed : goal.invariant-loop-placed
invariant-loop-placed l = ArePlain (take l.placed-index l.group) l.plain.items
