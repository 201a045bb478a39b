use Rattle.std.proofs.Common.{◌≡◌, ◌++◌, take}
use Rattle.isle_meta.specs.InstructionRow.{own_names}
use Rattle.isle_meta.specs.TableNames.{texts}
use Rattle.isle_table_check.proofs.check.push_names.Given as goal

abbrev pub invariant-loop-instruction : goal.invariant-loop-instruction
invariant-loop-instruction l = texts l.names.items ≡ texts l.fn.names.items ++ own_names (take l.instruction-index l.instructions)
