use Rattle.std.proofs.Common.{◌≡◌, ◌++◌, drop}
use Rattle.isle_places.specs.AskedViews.{asked as asked_of}
use Rattle.isle_places.specs.Told.{binds_told}
use Rattle.isle_places.specs.ToldViews.{tells}
use Rattle.isle_places.proofs.binding.bind_fields.Given as goal

abbrev pub invariant-loop-bind : goal.invariant-loop-bind
invariant-loop-bind l = tells l.bound ++ binds_told (asked_of l.asked) (drop l.bind-index l.binds) ≡ tells l.fn.bound ++ binds_told (asked_of l.asked) l.binds
