use Rattle.std.proofs.Common.{◌≡◌, map, drop}
use Rattle.isle_tree.specs.Run.{function_of}
use Rattle.isle_tree.specs.Views.{function}
use Rattle.isle_interpreter.proofs.functions.function_of.Given as goal

abbrev pub invariant-loop-f : goal.invariant-loop-f
invariant-loop-f l = function_of l.term (map function (drop l.f-index l.fns)) ≡ function_of l.term (map function l.fns)
