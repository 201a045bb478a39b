use Rattle.std.proofs.Common.{◌≡◌, ◌++◌, take, string_bytes}
use Rattle.std.specs.List.{flat_map}
use Rattle.isle_numerics.specs.declared.operation.Operation.{Operation}
use Rattle.isle_numerics.specs.Definitions.{operation_defs}
use Rattle.isle_writing.specs.Text.{def_texts}
use Rattle.isle_numeric_text.proofs.operations.push_operations.Given as goal

abbrev pub invariant-loop-op : goal.invariant-loop-op
invariant-loop-op l = string_bytes l.text ≡ string_bytes l.fn.text ++ flat_map (λ (op : Operation). def_texts (operation_defs l.ty op)) (take l.op-index l.ops)
