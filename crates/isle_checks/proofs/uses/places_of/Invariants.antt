use Rattle.std.proofs.Common.{◌≡◌, ◌++◌}
use Rattle.std.specs.Prelude.{drop}
use Rattle.isle_checks.specs.ClosedWalks.{uses_of}
use Rattle.isle_checks.specs.Graph.{places_of}
use Rattle.isle_checks.proofs.uses.places_of.Given as goal

abbrev pub invariant-loop-binding : goal.invariant-loop-binding
invariant-loop-binding l = places_of l.table (uses_of l.terms l.bindings) ≡ l.places.items ++ places_of l.table (uses_of l.terms (drop l.binding-index l.bindings))
