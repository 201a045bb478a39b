use Rattle.std.proofs.Common.{◌≡◌, map, take}
use Rattle.isle_pulley_rows.specs.Operands.{field_operand}
use Rattle.isle_pulley_rows.proofs.fields.field_operands.Given as goal

abbrev pub invariant-loop-field : goal.invariant-loop-field
invariant-loop-field l = l.found.items ≡ map field_operand (take l.field-index l.fields)
