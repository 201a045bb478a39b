use Rattle.std.proofs.Common.{◌≡◌, ◌++◌, take, string_bytes}
use Rattle.std.specs.List.{flat_map}
use Rattle.isle_prelude.specs.TypePieces.{format_line}
use Rattle.isle_prelude.proofs.instruction_data.push_format_lines.Given as goal

abbrev pub invariant-loop-format : goal.invariant-loop-format
invariant-loop-format l = string_bytes l.text ≡ string_bytes l.fn.text ++ flat_map format_line (take l.format-index l.formats)
