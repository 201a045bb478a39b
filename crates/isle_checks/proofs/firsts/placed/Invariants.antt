use Rattle.isle_checks.proofs.PlacedLaws.{PlacedSoFar}
use Rattle.isle_checks.proofs.firsts.placed.Given as goal

abbrev pub invariant-loop-place : goal.invariant-loop-place
invariant-loop-place l = PlacedSoFar l.rules l.place l.group.items
