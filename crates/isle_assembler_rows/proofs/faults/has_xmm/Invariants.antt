use Rattle.std.proofs.Common.{◌≡◌, drop}
use Rattle.std.specs.List.{list_any}
use Rattle.isle_meta.specs.declared.machine.Operand.{Operand}
use Rattle.isle_assembler_rows.specs.Operands.{is_of_xmm}
use Rattle.isle_assembler_rows.proofs.faults.has_xmm.Given as goal

abbrev pub invariant-loop-operand : goal.invariant-loop-operand
invariant-loop-operand l = list_any (λ (o : Operand). is_of_xmm o.kind) (drop l.operand-index l.operands) ≡ list_any (λ (o : Operand). is_of_xmm o.kind) l.operands
