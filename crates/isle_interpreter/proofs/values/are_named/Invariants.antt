use Rattle.std.proofs.Common.{◌≡◌, length, drop}
use Rattle.std.specs.Prelude.{◌↔◌}
use Rattle.isle_core.specs.ValueViews.{values}
use Rattle.isle_interpreter.specs.Named.{AreNamed}
use Rattle.isle_interpreter.proofs.values.are_named.Given as goal

abbrev pub invariant-loop-index : goal.invariant-loop-index
invariant-loop-index l = (AreNamed l.types (drop l.index l.names) (values (drop l.index l.given)) ↔ AreNamed l.types l.names (values l.given)) × (length l.names ≡ length l.given)
