use Rattle.isle_meta.proofs.FormatLaws.{FormatsFrom}
use Rattle.isle_meta.proofs.formats.unsupported_format.Given as goal

abbrev pub invariant-loop-format : goal.invariant-loop-format
invariant-loop-format l = FormatsFrom l.formats l.format-index l.names l.types
