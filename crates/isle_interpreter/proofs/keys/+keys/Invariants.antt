use Rattle.std.proofs.Common.{◌≡◌, ◌++◌, drop}
use Rattle.isle_outcomes.specs.Fields.{fields}
use Rattle.isle_interpreter.specs.Clashes.{fields_key}
use Rattle.isle_interpreter.proofs.keys.+keys.Given as goal

abbrev pub invariant-push_fields-loop-field : goal.invariant-push_fields-loop-field
invariant-push_fields-loop-field l = l.key.items ++ fields_key (fields (drop l.field-index l.given)) ≡ l.fn.key.items ++ fields_key (fields l.given)
