use Rattle.std.proofs.Common.{◌≡◌, take}
use Rattle.isle_meta.specs.TableNames.{texts}
use Rattle.isle_pulley_rows.specs.Results.{results}
use Rattle.isle_pulley_rows.proofs.answers.results.Given as goal

abbrev pub invariant-loop-operand : goal.invariant-loop-operand
invariant-loop-operand l = texts l.types.items ≡ results (take l.operand-index l.operands)
