use Rattle.std.proofs.Common.{◌≡◌, ◌++◌, take, string_bytes}
use Rattle.std.specs.List.{flat_map}
use Rattle.isle_assembler.specs.Methods.{let_line}
use Rattle.isle_assembler.proofs.methods.push_let_lines.Given as goal

abbrev pub invariant-loop-operand : goal.invariant-loop-operand
invariant-loop-operand l = string_bytes l.text ≡ string_bytes l.fn.text ++ flat_map let_line (take l.operand-index l.operands)
