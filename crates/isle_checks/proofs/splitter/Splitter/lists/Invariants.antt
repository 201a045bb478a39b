use Rattle.std.proofs.Common.{take}
use Rattle.isle_checks.specs.Lists.{AreLists, listing}
use Rattle.isle_checks.specs.Splitter.{HasKey}
use Rattle.isle_checks.proofs.splitter.Splitter.lists.Given as goal

abbrev pub invariant-loop-placed : goal.invariant-loop-placed
invariant-loop-placed l = AreLists (HasKey l.self) (take l.placed-index l.group) (listing l.lists)
