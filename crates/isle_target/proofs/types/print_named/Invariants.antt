use Rattle.std.proofs.Common.{◌≡◌, ◌++◌, drop}
use Rattle.std.specs.List.{AllByRecursion}
use Rattle.isle_tree.specs.WellFormed.{IsField}
use Rattle.isle_target.specs.Spelling.{named_tokens}
use Rattle.isle_target.proofs.types.print_named.Given as goal

abbrev pub invariant-loop-field : goal.invariant-loop-field
invariant-loop-field l =
    AllByRecursion IsField (drop l.field-index l.fields)
    × (l.out ++ named_tokens l.public (drop l.field-index l.fields) ≡ l.fn.out ++ named_tokens l.public l.fields)
