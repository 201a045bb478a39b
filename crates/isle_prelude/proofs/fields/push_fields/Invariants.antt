use Rattle.std.proofs.Common.{◌≡◌, ◌++◌, take}
use Rattle.isle_prelude.specs.Lent.{lent}
use Rattle.isle_prelude.proofs.fields.push_fields.Given as goal

abbrev pub invariant-loop-field : goal.invariant-loop-field
invariant-loop-field l = lent l.fields.items ≡ lent l.initial.fields.items ++ take l.field-index l.more
