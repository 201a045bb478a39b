use Rattle.std.proofs.Common.{◌≡◌, ◌++◌, List, ℕ, drop}
use Rattle.isle_core.specs.ArmPlaces.{bound_within}
use Rattle.isle_emission.proofs.statements.bind_places.Given as goal

abbrev pub invariant-loop-place : goal.invariant-loop-place
invariant-loop-place l = record {
  within : bound_within l.bound (drop l.place-index l.places) ≡ bound_within l.fn.bound l.places;
  grows : (more : List ℕ) × (l.bound ≡ l.fn.bound ++ more);
}
