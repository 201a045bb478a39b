use Rattle.std.proofs.Common.{map, drop}
use Rattle.std.specs.Prelude.{◌↔◌}
use Rattle.std.specs.List.{AllByRecursion}
use Rattle.isle_core.specs.ValueViews.{case}
use Rattle.isle_interpreter.specs.Entries.{CaseFits}
use Rattle.isle_places.specs.SignatureViews.{signature}
use Rattle.isle_interpreter.proofs.entry.cases_fit.Given as goal

abbrev pub invariant-loop-case : goal.invariant-loop-case
invariant-loop-case l = AllByRecursion (CaseFits l.types (signature l.of)) (map case (drop l.case-index l.case-items)) ↔ AllByRecursion (CaseFits l.types (signature l.of)) (map case l.case-items)
