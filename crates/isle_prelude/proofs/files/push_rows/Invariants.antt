use Rattle.std.proofs.Common.{◌≡◌, ◌++◌, take, string_bytes}
use Rattle.std.specs.List.{flat_map}
use Rattle.isle_prelude.specs.TermPieces.{row_piece}
use Rattle.isle_prelude.proofs.files.push_rows.Given as goal

abbrev pub invariant-loop-instruction : goal.invariant-loop-instruction
invariant-loop-instruction l = string_bytes l.text ≡ string_bytes l.fn.text ++ flat_map (row_piece l.file l.formats) (take l.instruction-index l.instructions)
