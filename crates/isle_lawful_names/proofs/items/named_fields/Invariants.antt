use Rattle.std.proofs.Common.{◌≡◌, map, take}
use Rattle.isle_lawful_names.specs.TypeItems.{named_field}
use Rattle.isle_lawful_names.proofs.items.named_fields.Given as goal

abbrev pub invariant-loop-field : goal.invariant-loop-field
invariant-loop-field l = l.fields.items ≡ map (named_field l.types) (take l.field-index l.given)
