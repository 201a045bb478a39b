use Rattle.std.proofs.Common.{◌≡◌, take}
use Rattle.isle_meta.specs.TableNames.{texts}
use Rattle.isle_pulley.specs.RuleFile.{param_types}
use Rattle.isle_pulley.proofs.parameters.param_types.Given as goal

abbrev pub invariant-loop-operand : goal.invariant-loop-operand
invariant-loop-operand l = texts l.types.items ≡ param_types (take l.operand-index l.operands)
