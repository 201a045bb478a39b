use Rattle.std.proofs.Common.{◌≡◌, drop}
use Rattle.isle_tree.specs.WellFormed.{are_field_values}
use Rattle.isle_judging.proofs.holding.are_field_values.Given as goal

abbrev pub invariant-loop-field : goal.invariant-loop-field
invariant-loop-field l = are_field_values l.params l.bound (drop l.field-index l.fields) ≡ are_field_values l.params l.bound l.fields
