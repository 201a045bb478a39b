use Rattle.isle_checks.proofs.PlaceLaws.{ArePlacesBelow}
use Rattle.isle_checks.proofs.uses.places.Given as goal

abbrev pub invariant-loop-place : goal.invariant-loop-place
invariant-loop-place l = ArePlacesBelow l.count l.sets l.place l.table.items
