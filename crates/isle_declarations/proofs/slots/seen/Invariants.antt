use Rattle.std.proofs.Common.{◌≡◌, drop}
use Rattle.std.specs.List.{find}
use Rattle.isle_declarations.specs.LookedUp.{texts}
use Rattle.isle_declarations.specs.Slots.{stands_at}
use Rattle.isle_declarations.proofs.slots.seen.Given as goal

abbrev pub invariant-loop-place : goal.invariant-loop-place
invariant-loop-place l =
    find (stands_at (texts l.fn.names) l.fn.name) (drop l.place-index l.window) ≡ find (stands_at (texts l.fn.names) l.fn.name) l.window
