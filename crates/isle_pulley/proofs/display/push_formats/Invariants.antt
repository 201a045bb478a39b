use Rattle.std.proofs.Common.{◌≡◌, ◌++◌, true, drop, string_bytes}
use Rattle.isle_pulley.specs.Display.{format_texts}
use Rattle.isle_pulley.proofs.display.push_formats.Given as goal

abbrev pub invariant-loop-operand : goal.invariant-loop-operand
invariant-loop-operand l = string_bytes l.text ++ format_texts l.is_first (drop l.operand-index l.operands) ≡ string_bytes l.fn.text ++ format_texts true l.operands
