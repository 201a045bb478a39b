use Rattle.std.proofs.Common.{◌≡◌, take}
use Rattle.isle_meta.specs.TableNames.{texts}
use Rattle.isle_pulley_rows.specs.Names.{operand_names}
use Rattle.isle_pulley_rows.proofs.names.operand_names.Given as goal

abbrev pub invariant-loop-operand : goal.invariant-loop-operand
invariant-loop-operand l = texts l.names.items ≡ operand_names (take l.operand-index l.operands)
