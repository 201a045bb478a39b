use Rattle.std.proofs.Common.{◌≡◌, ◌++◌, drop}
use Rattle.std.specs.List.{AllByRecursion}
use Rattle.isle_tree.specs.WellFormed.{IsRead}
use Rattle.isle_target.specs.StatementSpelling.{args_tokens}
use Rattle.isle_target.proofs.call.print_args.Given as goal

abbrev pub invariant-loop-read : goal.invariant-loop-read
invariant-loop-read l =
    AllByRecursion IsRead (drop l.read-index l.args) × (l.out ++ args_tokens (drop l.read-index l.args) ≡ l.fn.out ++ args_tokens l.args)
