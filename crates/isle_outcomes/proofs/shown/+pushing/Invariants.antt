use Rattle.std.proofs.Common.{◌≡◌, ◌++◌, drop, string_bytes}
use Rattle.isle_outcomes.specs.Fields.{fields}
use Rattle.isle_outcomes.specs.Shown.{fields_text}
use Rattle.isle_outcomes.proofs.shown.+pushing.Given as goal

abbrev pub invariant-push_fields-loop-field : goal.invariant-push_fields-loop-field
invariant-push_fields-loop-field l = string_bytes l.out ++ fields_text (fields (drop l.field-index l.given)) ≡ string_bytes l.fn.out ++ fields_text (fields l.given)
