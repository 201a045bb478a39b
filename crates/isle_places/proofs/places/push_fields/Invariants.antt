use Rattle.std.proofs.Common.{◌≡◌, ◌++◌, drop}
use Rattle.isle_places.specs.AskedViews.{asked as asked_of}
use Rattle.isle_places.specs.Places.{fields_places}
use Rattle.isle_places.specs.ToldViews.{placed}
use Rattle.isle_places.proofs.places.push_fields.Given as goal

abbrev pub invariant-loop-field : goal.invariant-loop-field
invariant-loop-field l = placed l.found.items ++ (fields_places (asked_of l.asked) (drop l.field-index l.fields)) ≡ placed l.fn.found.items ++ (fields_places (asked_of l.asked) l.fields)
