use Rattle.std.proofs.Common.{◌≡◌, ◌++◌, take, string_bytes}
use Rattle.std.specs.List.{flat_map}
use Rattle.isle_prelude.specs.TypePieces.{opcode_line}
use Rattle.isle_prelude.proofs.instruction_data.push_opcode_lines.Given as goal

abbrev pub invariant-loop-instruction : goal.invariant-loop-instruction
invariant-loop-instruction l = string_bytes l.text ≡ string_bytes l.fn.text ++ flat_map opcode_line (take l.instruction-index l.instructions)
