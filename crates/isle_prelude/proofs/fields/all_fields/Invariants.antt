use Rattle.std.proofs.Common.{◌≡◌, ◌++◌, drop}
use Rattle.isle_meta.specs.FormatRow.{all_fields}
use Rattle.isle_prelude.specs.Lent.{lent}
use Rattle.isle_prelude.proofs.fields.all_fields.Given as goal

abbrev pub invariant-loop-format : goal.invariant-loop-format
invariant-loop-format l = lent l.fields.items ++ all_fields (drop l.format-index l.formats) ≡ all_fields l.formats
