use Rattle.std.proofs.Common.{drop}
use Rattle.std.specs.Prelude.{◌↔◌}
use Rattle.std.specs.List.{AllByRecursion}
use Rattle.isle_tree.specs.WellFormed.{IsTraitFn}
use Rattle.isle_judging.proofs.trait_fns.are_trait_fns.Given as goal

abbrev pub invariant-loop-f : goal.invariant-loop-f
invariant-loop-f l = AllByRecursion IsTraitFn (drop l.f-index l.fns) ↔ AllByRecursion IsTraitFn l.fns
