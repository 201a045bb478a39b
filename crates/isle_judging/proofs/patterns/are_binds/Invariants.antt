use Rattle.std.proofs.Common.{drop}
use Rattle.std.specs.Prelude.{◌↔◌}
use Rattle.std.specs.List.{AllByRecursion}
use Rattle.isle_tree.specs.WellFormed.{IsBind}
use Rattle.isle_judging.proofs.patterns.are_binds.Given as goal

abbrev pub invariant-loop-bind : goal.invariant-loop-bind
invariant-loop-bind l = AllByRecursion IsBind (drop l.bind-index l.binds) ↔ AllByRecursion IsBind l.binds
