use Rattle.std.proofs.Common.{◌≡◌, ◌++◌, take}
use Rattle.std.specs.Prelude.{map}
use Rattle.isle_meta.specs.declared.clif.ImmField.{ImmField}
use Rattle.isle_meta.specs.FormatRow.{fixed_fields}
use Rattle.isle_meta.specs.TableNames.{texts}
use Rattle.isle_meta.proofs.formats.field_names.Given as goal

abbrev pub invariant-loop-field : goal.invariant-loop-field
invariant-loop-field l = texts l.names.items ≡ fixed_fields l.fn.format ++ map (λ (f : ImmField). f.member) (take l.field-index l.fn.format.imm_fields)
