use denote.Shadow.{shadow}
use denote.Text.{Utf8}
use Rattle.std.proofs.Common.{◌≡◌, ◌++◌, drop, string_bytes}
use Rattle.isle_pulley.specs.Pieces.{operands_piece}
use Rattle.isle_pulley.proofs.instruction.push_operands.Given as goal

abbrev pub invariant-loop-operand : goal.invariant-loop-operand
invariant-loop-operand l = shadow (Utf8 l.next) × (string_bytes l.text ++ operands_piece l.next l.last (drop l.operand-index l.fn.operands) ≡ string_bytes l.fn.text ++ operands_piece l.fn.first l.last l.fn.operands)
