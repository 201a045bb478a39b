use Rattle.std.proofs.Common.{◌≡◌, take}
use Rattle.isle_running.proofs.holding.values_copied.Given as goal

abbrev pub invariant-loop-value : goal.invariant-loop-value
invariant-loop-value l = l.copies.items ≡ take l.value-index l.given
