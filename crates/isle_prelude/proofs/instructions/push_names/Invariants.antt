use Rattle.std.proofs.Common.{◌≡◌, ◌++◌, drop, codes, string_bytes}
use Rattle.isle_prelude.specs.InstructionParts.{names_in}
use Rattle.isle_writing.specs.Text.{spaced}
use Rattle.isle_prelude.proofs.instructions.push_names.Given as goal

abbrev pub invariant-loop-operand : goal.invariant-loop-operand
invariant-loop-operand l = string_bytes l.text ++ spaced (codes " ") (names_in (drop l.operand-index l.operands)) ≡ string_bytes l.initial.text ++ spaced (codes " ") (names_in l.operands)
