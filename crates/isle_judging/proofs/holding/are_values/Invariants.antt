use Rattle.std.proofs.Common.{◌≡◌, drop}
use Rattle.isle_tree.specs.WellFormed.{are_values}
use Rattle.isle_judging.proofs.holding.are_values.Given as goal

abbrev pub invariant-loop-read : goal.invariant-loop-read
invariant-loop-read l = are_values l.params l.bound (drop l.read-index l.reads) ≡ are_values l.params l.bound l.reads
