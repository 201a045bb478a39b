use Rattle.std.proofs.Common.{take}
use Rattle.isle_declarations.specs.LookedUp.{texts}
use Rattle.isle_declarations.specs.Slots.{Places}
use Rattle.isle_declarations.proofs.slots.Slots.of_names.Given as goal

abbrev pub invariant-loop-place : goal.invariant-loop-place
invariant-loop-place l = Places (texts (take l.place l.names)) l.slots.places.items l.slots.overflow
