use Rattle.std.proofs.Common.{◌≡◌, drop}
use Rattle.std.specs.List.{list_any}
use Rattle.isle_pulley_rows.specs.PulleyRow.{is_misnamed}
use Rattle.isle_pulley_rows.proofs.check.has_misnamed.Given as goal

abbrev pub invariant-loop-field : goal.invariant-loop-field
invariant-loop-field l = list_any is_misnamed (drop l.field-index l.fields) ≡ list_any is_misnamed l.fields
