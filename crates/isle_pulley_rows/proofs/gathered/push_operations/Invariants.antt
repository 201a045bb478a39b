use Rattle.std.proofs.Common.{◌≡◌, ◌++◌, take}
use Rattle.isle_pulley_rows.specs.Operations.{operations_of}
use Rattle.isle_pulley_rows.proofs.gathered.push_operations.Given as goal

abbrev pub invariant-loop-row : goal.invariant-loop-row
invariant-loop-row l = l.found.items ≡ l.initial.found.items ++ operations_of (take l.row-index l.rows)
