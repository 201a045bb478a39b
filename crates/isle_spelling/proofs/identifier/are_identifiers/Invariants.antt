use Rattle.std.proofs.Common.{drop}
use Rattle.std.specs.Prelude.{◌↔◌}
use Rattle.std.specs.List.{AllByRecursion}
use Rattle.isle_spelling.specs.Identifier.{IsIdentifier}
use Rattle.isle_spelling.proofs.identifier.are_identifiers.Given as goal

abbrev pub invariant-loop-name : goal.invariant-loop-name
invariant-loop-name l = AllByRecursion IsIdentifier (drop l.name-index l.names) ↔ AllByRecursion IsIdentifier l.names
