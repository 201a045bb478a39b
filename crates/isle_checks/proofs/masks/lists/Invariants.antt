use Rattle.std.proofs.Common.{take}
use Rattle.isle_checks.specs.Lists.{AreLists, listing}
use Rattle.isle_checks.specs.Masks.{BearsKey}
use Rattle.isle_checks.proofs.masks.lists.Given as goal

abbrev pub invariant-loop-placed : goal.invariant-loop-placed
invariant-loop-placed l = AreLists BearsKey (take l.placed-index l.group) (listing l.lists)
