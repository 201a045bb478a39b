use Rattle.std.proofs.Common.{◌≡◌, ◌++◌, drop}
use Rattle.std.specs.List.{AllByRecursion}
use Rattle.isle_spelling.specs.Identifier.{IsIdentifier}
use Rattle.isle_target.specs.Spelling.{places_tokens}
use Rattle.isle_target.proofs.types.print_places.Given as goal

abbrev pub invariant-loop-i : goal.invariant-loop-i
invariant-loop-i l =
    AllByRecursion IsIdentifier (drop l.i l.tys) × (l.out ++ places_tokens l.public l.i (drop l.i l.tys) ≡ l.fn.out ++ places_tokens l.public 0 l.tys)
