use Rattle.std.proofs.Common.{take}
use Rattle.isle_checks.specs.Parts.{AreParts}
use Rattle.isle_checks.proofs.parts.parted.Given as goal

abbrev pub invariant-loop-placed : goal.invariant-loop-placed
invariant-loop-placed l = AreParts (take l.placed-index l.group) l.parts.keyed.items l.parts.others.items
