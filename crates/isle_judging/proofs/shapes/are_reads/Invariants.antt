use Rattle.std.proofs.Common.{drop}
use Rattle.std.specs.Prelude.{◌↔◌}
use Rattle.std.specs.List.{AllByRecursion}
use Rattle.isle_tree.specs.WellFormed.{IsRead}
use Rattle.isle_judging.proofs.shapes.are_reads.Given as goal

abbrev pub invariant-loop-read : goal.invariant-loop-read
invariant-loop-read l = AllByRecursion IsRead (drop l.read-index l.reads) ↔ AllByRecursion IsRead l.reads
