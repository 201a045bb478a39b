use Rattle.std.proofs.Common.{◌≡◌, ◌++◌, take}
use Rattle.isle_numerics.proofs.table.push_all.Given as goal

abbrev pub invariant-loop-op : goal.invariant-loop-op
invariant-loop-op l = l.items.items ≡ l.fn.items.items ++ take l.op-index l.ops
