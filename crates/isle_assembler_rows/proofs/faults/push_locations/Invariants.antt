use Rattle.std.proofs.Common.{◌≡◌, ◌++◌, take}
use Rattle.isle_assembler_rows.specs.Operands.{locations}
use Rattle.isle_meta.specs.TableNames.{texts}
use Rattle.isle_assembler_rows.proofs.faults.push_locations.Given as goal

abbrev pub invariant-loop-operand : goal.invariant-loop-operand
invariant-loop-operand l = texts l.names.items ≡ texts l.fn.names.items ++ locations (take l.operand-index l.operands)
