use Rattle.std.proofs.Common.{◌≡◌, ◌++◌, drop}
use Rattle.std.specs.List.{AllByRecursion}
use Rattle.isle_tree.specs.WellFormed.{IsFieldRead}
use Rattle.isle_target.specs.StatementSpelling.{field_reads_tokens}
use Rattle.isle_target.proofs.made.print_field_reads.Given as goal

abbrev pub invariant-loop-field : goal.invariant-loop-field
invariant-loop-field l =
    AllByRecursion IsFieldRead (drop l.field-index l.fields)
    × (l.out ++ field_reads_tokens (drop l.field-index l.fields) ≡ l.fn.out ++ field_reads_tokens l.fields)
