use Rattle.std.proofs.Common.{◌≡◌, ◌++◌, List, string_bytes}
use Rattle.std.specs.List.{flat_map}
use Rattle.isle_meta.specs.declared.clif.ImmField.{ImmField}
use Rattle.isle_prelude.specs.FirstFields.{HasFirsts}
use Rattle.isle_prelude.specs.Lent.{lent}
use Rattle.isle_prelude.specs.TypePieces.{imm_enum_piece}
use Rattle.isle_prelude.proofs.immediates.push_imm_enums.Given as goal

abbrev pub invariant-loop-name : goal.invariant-loop-name
invariant-loop-name l = (fields : List ImmField) → HasFirsts fields l.types → string_bytes l.text ++ flat_map (imm_enum_piece fields) (lent l.name-iterator) ≡ string_bytes l.initial.text ++ flat_map (imm_enum_piece fields) (lent l.names.keys)
