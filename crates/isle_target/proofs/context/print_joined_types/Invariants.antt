use Rattle.std.proofs.Common.{◌≡◌, ◌++◌, drop}
use Rattle.isle_tree.specs.WellFormed.{AreResults}
use Rattle.isle_target.specs.Spelling.{joined_types}
use Rattle.isle_target.proofs.context.print_joined_types.Given as goal

abbrev pub invariant-loop-i : goal.invariant-loop-i
invariant-loop-i l =
    AreResults (drop l.i l.tys) × (l.out ++ joined_types l.i (drop l.i l.tys) ≡ l.fn.out ++ joined_types 0 l.tys)
