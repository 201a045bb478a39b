use Rattle.std.proofs.Common.{◌≡◌, ◌++◌, drop}
use Rattle.std.specs.List.{AllByRecursion}
use Rattle.isle_tree.specs.WellFormed.{IsTy}
use Rattle.isle_target.specs.Spelling.{joined_tokens}
use Rattle.isle_target.proofs.context.print_joined.Given as goal

abbrev pub invariant-loop-i : goal.invariant-loop-i
invariant-loop-i l =
    AllByRecursion IsTy (drop l.i l.params) × (l.out ++ joined_tokens l.i (drop l.i l.params) ≡ l.fn.out ++ joined_tokens 0 l.params)
