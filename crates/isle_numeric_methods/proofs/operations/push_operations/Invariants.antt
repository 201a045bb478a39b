use Rattle.std.proofs.Common.{◌≡◌, ◌++◌, take, string_bytes}
use Rattle.std.specs.List.{flat_map}
use Rattle.isle_numeric_methods.specs.Methods.{operation_methods}
use Rattle.isle_numeric_methods.proofs.operations.push_operations.Given as goal

abbrev pub invariant-loop-op : goal.invariant-loop-op
invariant-loop-op l = string_bytes l.text ≡ string_bytes l.fn.text ++ flat_map (operation_methods l.ty) (take l.op-index l.ops)
