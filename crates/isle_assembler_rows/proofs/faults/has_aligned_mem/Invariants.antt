use Rattle.std.proofs.Common.{◌≡◌, drop}
use Rattle.std.specs.List.{list_any}
use Rattle.isle_assembler_rows.specs.AssemblerRow.{is_aligned_mem}
use Rattle.isle_assembler_rows.proofs.faults.has_aligned_mem.Given as goal

abbrev pub invariant-loop-operand : goal.invariant-loop-operand
invariant-loop-operand l = list_any is_aligned_mem (drop l.operand-index l.operands) ≡ list_any is_aligned_mem l.operands
