use Rattle.std.proofs.Common.{◌≡◌, length, take}
use Rattle.isle_core.specs.ValueViews.{values}
use Rattle.isle_places.specs.Signatures.{type_names}
use Rattle.isle_interpreter.specs.Named.{AreNamed}
use Rattle.isle_interpreter.proofs.values.first_wrong.Given as goal

abbrev pub invariant-loop-index : goal.invariant-loop-index
invariant-loop-index l = AreNamed l.types (take l.index (type_names l.params)) (take l.index (values l.args)) × (length l.args ≡ length l.params)
