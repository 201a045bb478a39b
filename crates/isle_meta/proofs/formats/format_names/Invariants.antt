use Rattle.std.proofs.Common.{◌≡◌, ◌∷◌, take}
use Rattle.std.specs.Prelude.{flat_map}
use Rattle.isle_meta.specs.Immediates.{imm_names}
use Rattle.isle_meta.specs.TableNames.{texts}
use Rattle.isle_meta.proofs.formats.format_names.Given as goal

abbrev pub invariant-loop-field : goal.invariant-loop-field
invariant-loop-field l = texts l.names.items ≡ l.fn.format.name ∷ flat_map imm_names (take l.field-index l.fn.format.imm_fields)
