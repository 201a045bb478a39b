use Rattle.std.proofs.Common.{◌≡◌, ◌++◌, map, drop}
use Rattle.std.specs.List.{AllByRecursion}
use Rattle.isle_tree.specs.Views.{program, function}
use Rattle.isle_tree.specs.WellFormed.{IsFunction}
use Rattle.isle_target.specs.Spelling.{functions_tokens}
use Rattle.isle_target.proofs.print.print_functions.Given as goal

abbrev pub invariant-loop-f : goal.invariant-loop-f
invariant-loop-f l =
    AllByRecursion (IsFunction (program l.p)) (map function (drop l.f-index l.p.fns))
    × (l.out ++ functions_tokens (map function (drop l.f-index l.p.fns)) ≡ l.fn.out ++ functions_tokens (map function l.p.fns))
