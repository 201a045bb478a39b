use Rattle.std.proofs.Common.{◌≡◌, drop}
use Rattle.isle_pulley_rows.specs.Operands.{has_trapping_address}
use Rattle.isle_pulley_rows.proofs.fields.has_trapping_address.Given as goal

abbrev pub invariant-loop-field : goal.invariant-loop-field
invariant-loop-field l = has_trapping_address (drop l.field-index l.fields) ≡ has_trapping_address l.fields
