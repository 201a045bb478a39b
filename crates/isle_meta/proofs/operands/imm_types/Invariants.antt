use Rattle.std.proofs.Common.{◌≡◌, ◌++◌, drop}
use Rattle.std.specs.List.{filter_map}
use Rattle.isle_meta.specs.InstructionRow.{imm_type, imm_types}
use Rattle.isle_meta.specs.TableNames.{texts}
use Rattle.isle_meta.proofs.operands.imm_types.Given as goal

abbrev pub invariant-loop-operand : goal.invariant-loop-operand
invariant-loop-operand l = texts l.types.items ++ filter_map imm_type (drop l.operand-index l.fn.instruction.operands_in) ≡ imm_types l.fn.instruction
