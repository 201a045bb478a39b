use Rattle.std.proofs.Common.{◌≡◌, drop}
use Rattle.std.specs.List.{list_any}
use Rattle.isle_assembler_rows.specs.AssemblerRow.{is_written_imm}
use Rattle.isle_assembler_rows.proofs.faults.has_written_imm.Given as goal

abbrev pub invariant-loop-operand : goal.invariant-loop-operand
invariant-loop-operand l = list_any is_written_imm (drop l.operand-index l.operands) ≡ list_any is_written_imm l.operands
