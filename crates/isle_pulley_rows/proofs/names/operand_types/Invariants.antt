use Rattle.std.proofs.Common.{◌≡◌, take}
use Rattle.isle_meta.specs.TableNames.{texts}
use Rattle.isle_pulley_rows.specs.Names.{operand_types}
use Rattle.isle_pulley_rows.proofs.names.operand_types.Given as goal

abbrev pub invariant-loop-operand : goal.invariant-loop-operand
invariant-loop-operand l = texts l.types.items ≡ operand_types (take l.operand-index l.operands)
