use Rattle.std.proofs.Common.{◌≡◌, ◌+◌, ◌*◌, length, drop}
use Rattle.std.specs.Prelude.{◌↔◌}
use Rattle.isle_outcomes.specs.Fields.{fields}
use Rattle.isle_places.specs.DeclaredTypes.{These, tuple_fields}
use Rattle.isle_interpreter.specs.Named.{AreAsked}
use Rattle.isle_interpreter.proofs.typed.+naming.Given as goal

abbrev pub invariant-are_these-loop-index : goal.invariant-are_these-loop-index
invariant-are_these-loop-index l =
    (AreAsked l.types (These (drop l.index l.named)) (fields (drop l.index l.given)) ↔ AreAsked l.types (These l.named) (fields l.given)) × (length l.named ≡ length l.given)

abbrev pub invariant-are_parts-loop-index : goal.invariant-are_parts-loop-index
invariant-are_parts-loop-index l =
    (AreAsked l.types (These (tuple_fields l.index (drop l.index l.tys))) (fields (drop l.index l.given)) ↔ AreAsked l.types (These (tuple_fields 0 l.tys)) (fields l.given)) × (length l.tys ≡ length l.given)

abbrev pub decreases-is_named : goal.decreases-is_named
decreases-is_named l = 3 * goal.size-is_named l

abbrev pub decreases-are_asked : goal.decreases-are_asked
decreases-are_asked l = 3 * goal.size-are_asked l + 2

abbrev pub decreases-are_these : goal.decreases-are_these
decreases-are_these l = 3 * goal.size-are_these l + 1

abbrev pub decreases-are_parts : goal.decreases-are_parts
decreases-are_parts l = 3 * goal.size-are_parts l + 1
