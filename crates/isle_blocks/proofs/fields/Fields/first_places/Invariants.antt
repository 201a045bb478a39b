use Rattle.std.proofs.Common.{◌≡◌}
use Rattle.std.specs.BTreeMap.{get}
use Rattle.isle_blocks.specs.Fields.{key_cmp, first_places}
use Rattle.isle_blocks.proofs.fields.Fields.first_places.Given as goal

abbrev pub invariant-loop-field : goal.invariant-loop-field
invariant-loop-field l = l.places.items ≡ first_places (λ field. get key_cmp l.self.found (l.shown, field)) l.field
