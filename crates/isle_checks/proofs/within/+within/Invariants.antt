use Rattle.std.proofs.Common.{◌+◌, ◌*◌, length}
use Rattle.isle_checks.proofs.WithinLaws.{FindsPast}
use Rattle.isle_checks.proofs.within.+within.Given as goal

abbrev pub decreases-within : goal.decreases-within
decreases-within l = 2 * length l.group.now + 1

abbrev pub decreases-by_keys : goal.decreases-by_keys
decreases-by_keys l = 2 * length l.group.now

abbrev pub invariant-by_keys-loop-list : goal.invariant-by_keys-loop-list
invariant-by_keys-loop-list l = FindsPast l.group l.initial.list-iterator l.list-iterator l.fn.found.items l.found.items
