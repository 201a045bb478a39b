use Rattle.std.proofs.Common.{◌≡◌, take, map}
use Rattle.isle_meta.specs.declared.clif.ClifOperand.{ClifOperand}
use Rattle.isle_meta.specs.TableNames.{texts}
use Rattle.isle_meta.proofs.operands.operand_names.Given as goal

abbrev pub invariant-loop-operand : goal.invariant-loop-operand
invariant-loop-operand l = texts l.names.items ≡ map (λ (o : ClifOperand). o.name) (take l.operand-index l.fn.instruction.operands_in)
