use Rattle.std.proofs.Common.{◌≡◌, ◌++◌, drop}
use Rattle.std.specs.List.{AllByRecursion}
use Rattle.isle_tree.specs.WellFormed.{IsBind}
use Rattle.isle_target.specs.StatementSpelling.{binds_tokens}
use Rattle.isle_target.proofs.pattern.print_binds.Given as goal

abbrev pub invariant-loop-bind : goal.invariant-loop-bind
invariant-loop-bind l =
    AllByRecursion IsBind (drop l.bind-index l.binds)
    × (l.out ++ binds_tokens (drop l.bind-index l.binds) l.more ≡ l.fn.out ++ binds_tokens l.binds l.more)
