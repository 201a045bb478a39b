use Rattle.std.proofs.Common.{◌≡◌, ◌++◌, map, take}
use Rattle.isle_numerics.specs.Table.{listed}
use Rattle.isle_numerics.proofs.table.push_listed.Given as goal

abbrev pub invariant-loop-op : goal.invariant-loop-op
invariant-loop-op l = l.items.items ≡ l.fn.items.items ++ map (listed l.name) (take l.op-index l.ops)
