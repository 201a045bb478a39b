use Rattle.std.proofs.Common.{◌≡◌, take}
use Rattle.std.specs.Prelude.{filter}
use Rattle.isle_assembler_rows.specs.AssemblerRow.{is_hidden}
use Rattle.isle_assembler_rows.specs.Operands.{lent}
use Rattle.isle_assembler_rows.proofs.faults.hidden_operands.Given as goal

abbrev pub invariant-loop-operand : goal.invariant-loop-operand
invariant-loop-operand l = lent l.found.items ≡ filter is_hidden (take l.operand-index l.operands)
