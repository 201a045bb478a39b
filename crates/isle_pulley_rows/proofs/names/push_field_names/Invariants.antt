use Rattle.std.proofs.Common.{◌≡◌, ◌++◌, take}
use Rattle.isle_meta.specs.TableNames.{texts}
use Rattle.isle_pulley_rows.specs.PulleyRow.{field_names}
use Rattle.isle_pulley_rows.proofs.names.push_field_names.Given as goal

abbrev pub invariant-loop-field : goal.invariant-loop-field
invariant-loop-field l = texts l.names.items ≡ texts l.initial.names.items ++ field_names (take l.field-index l.fields)
