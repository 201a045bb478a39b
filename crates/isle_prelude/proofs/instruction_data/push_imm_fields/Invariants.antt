use Rattle.std.proofs.Common.{◌≡◌, ◌++◌, take, string_bytes}
use Rattle.std.specs.List.{flat_map}
use Rattle.isle_prelude.specs.TypePieces.{imm_field_piece}
use Rattle.isle_prelude.proofs.instruction_data.push_imm_fields.Given as goal

abbrev pub invariant-loop-field : goal.invariant-loop-field
invariant-loop-field l = string_bytes l.text ≡ string_bytes l.fn.text ++ flat_map imm_field_piece (take l.field-index l.fields)
