use Rattle.std.proofs.Common.{◌≡◌, take}
use Rattle.isle_outcomes.proofs.value.+copied.Given as goal

abbrev pub invariant-loop-field : goal.invariant-loop-field
invariant-loop-field l = l.copies.items ≡ take l.field-index l.field-items

abbrev pub invariant-loop-field-2 : goal.invariant-loop-field-2
invariant-loop-field-2 l = l.copies.items ≡ take l.field-index l.field-items
