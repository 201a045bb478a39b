use denote.Shadow.{shadow}
use denote.Text.{Utf8}
use Rattle.std.proofs.Common.{◌≡◌, ◌++◌, drop, string_bytes}
use Rattle.isle_prelude.specs.InstructionParts.{operand_types}
use Rattle.isle_writing.specs.Text.{spaced}
use Rattle.isle_prelude.proofs.instructions.push_operand_types.Given as goal

abbrev pub invariant-loop-operand : goal.invariant-loop-operand
invariant-loop-operand l = shadow (Utf8 l.before) × (string_bytes l.text ++ spaced l.before (operand_types (drop l.operand-index l.fn.operands)) ≡ string_bytes l.fn.text ++ spaced l.fn.first (operand_types l.fn.operands))
