use Rattle.std.proofs.Common.{◌≡◌, take}
use Rattle.std.specs.Prelude.{filter}
use Rattle.isle_meta.specs.declared.machine.Operand.{Operand}
use Rattle.isle_assembler_rows.specs.Operands.{is_register, lent}
use Rattle.isle_assembler.proofs.returns.registers.Given as goal

abbrev pub invariant-loop-operand : goal.invariant-loop-operand
invariant-loop-operand l = lent l.found.items ≡ filter (λ (o : Operand). is_register o.kind) (lent (take l.operand-index l.operands))
