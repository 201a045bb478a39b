use Rattle.std.proofs.Common.{◌≡◌, take}
use Rattle.std.specs.Prelude.{filter}
use Rattle.isle_meta.specs.declared.machine.Operand.{Operand}
use Rattle.isle_assembler_rows.specs.Operands.{is_written, lent}
use Rattle.isle_assembler_rows.proofs.operands.written.Given as goal

abbrev pub invariant-loop-operand : goal.invariant-loop-operand
invariant-loop-operand l = lent l.written.items ≡ filter (λ (o : Operand). is_written o.mutability) (take l.operand-index l.fn.inst.operands)
