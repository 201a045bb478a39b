use Rattle.std.proofs.Common.{take}
use Rattle.isle_prelude.specs.FirstFields.{HasFirsts}
use Rattle.isle_prelude.specs.Lent.{lent}
use Rattle.isle_prelude.proofs.first_fields.first_fields.Given as goal

abbrev pub invariant-loop-field : goal.invariant-loop-field
invariant-loop-field l = HasFirsts (lent (take l.field-index l.fields)) l.types
