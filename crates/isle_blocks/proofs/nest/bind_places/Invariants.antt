use Rattle.std.proofs.Common.{◌≡◌, drop}
use Rattle.isle_core.specs.ArmPlaces.{bound_within}
use Rattle.isle_blocks.proofs.nest.bind_places.Given as goal

abbrev pub invariant-loop-place : goal.invariant-loop-place
invariant-loop-place l = bound_within l.bound (drop l.place-index l.places) ≡ bound_within l.fn.bound l.places
