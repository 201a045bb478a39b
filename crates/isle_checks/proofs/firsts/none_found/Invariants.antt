use Rattle.std.proofs.Common.{◌≡◌, replicate, None}
use Rattle.isle_checks.proofs.firsts.none_found.Given as goal

abbrev pub invariant-loop : goal.invariant-loop
invariant-loop l = l.found.items ≡ replicate l.counter None
