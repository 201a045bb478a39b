use Rattle.std.proofs.Common.{map, drop}
use Rattle.std.specs.Prelude.{◌↔◌}
use Rattle.std.specs.List.{AllByRecursion}
use Rattle.isle_core.specs.ValueViews.{values}
use Rattle.isle_interpreter.specs.Named.{AreNamed}
use Rattle.isle_interpreter.proofs.values.all_named.Given as goal

abbrev pub invariant-loop-found : goal.invariant-loop-found
invariant-loop-found l = AllByRecursion (AreNamed l.types l.names) (map values (drop l.found-index l.given)) ↔ AllByRecursion (AreNamed l.types l.names) (map values l.given)
