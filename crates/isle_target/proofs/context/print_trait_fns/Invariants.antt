use Rattle.std.proofs.Common.{◌≡◌, ◌++◌, drop}
use Rattle.std.specs.List.{AllByRecursion}
use Rattle.isle_tree.specs.WellFormed.{IsTraitFn}
use Rattle.isle_target.specs.Spelling.{trait_fns_tokens}
use Rattle.isle_target.proofs.context.print_trait_fns.Given as goal

abbrev pub invariant-loop-f : goal.invariant-loop-f
invariant-loop-f l =
    AllByRecursion IsTraitFn (drop l.f-index l.fns) × (l.out ++ trait_fns_tokens (drop l.f-index l.fns) ≡ l.fn.out ++ trait_fns_tokens l.fns)
