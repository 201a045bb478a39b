use Rattle.std.proofs.Common.{◌≡◌, ◌++◌, take}
use Rattle.std.specs.List.{flat_map}
use Rattle.isle_numerics.specs.declared.operation.Operation.{Operation}
use Rattle.isle_numerics.specs.Definitions.{operation_defs}
use Rattle.isle_numeric_text.specs.Among.{terms_of}
use Rattle.isle_numeric_text.proofs.term_names.push_operations.Given as goal

abbrev pub invariant-loop-op : goal.invariant-loop-op
invariant-loop-op l = l.names.items ≡ l.fn.names.items ++ flat_map (λ (op : Operation). terms_of (operation_defs l.ty op)) (take l.op-index l.ops)
