use Rattle.isle_checks.specs.Errors.{places_of, errors_below, Joined}
use Rattle.isle_checks.proofs.errors.push_errors.Given as goal

abbrev pub invariant-loop-place : goal.invariant-loop-place
invariant-loop-place l = Joined l.fn.errors.items l.errors.items (errors_below (places_of l.rules) l.unreachable.items l.overlaps.items l.masks.items l.place)
