use Rattle.std.proofs.Common.{drop}
use Rattle.std.specs.Prelude.{◌↔◌}
use Rattle.std.specs.List.{AllByRecursion}
use Rattle.isle_tree.specs.WellFormed.{IsTy}
use Rattle.isle_judging.proofs.names.are_tys.Given as goal

abbrev pub invariant-loop-ty : goal.invariant-loop-ty
invariant-loop-ty l = AllByRecursion IsTy (drop l.ty-index l.tys) ↔ AllByRecursion IsTy l.tys
