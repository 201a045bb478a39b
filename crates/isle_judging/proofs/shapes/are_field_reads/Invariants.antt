use Rattle.std.proofs.Common.{drop}
use Rattle.std.specs.Prelude.{◌↔◌}
use Rattle.std.specs.List.{AllByRecursion}
use Rattle.isle_tree.specs.WellFormed.{IsFieldRead}
use Rattle.isle_judging.proofs.shapes.are_field_reads.Given as goal

abbrev pub invariant-loop-field : goal.invariant-loop-field
invariant-loop-field l = AllByRecursion IsFieldRead (drop l.field-index l.fields) ↔ AllByRecursion IsFieldRead l.fields
