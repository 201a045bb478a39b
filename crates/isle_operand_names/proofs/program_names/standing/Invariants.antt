use Rattle.std.proofs.Common.{◌≡◌, ◌++◌, map, drop}
use Rattle.isle_tree.specs.Views.{function}
use Rattle.isle_operand_names.specs.Names.{function_names}
use Rattle.isle_operand_names.proofs.program_names.standing.Given as goal

abbrev pub invariant-loop-f : goal.invariant-loop-f
invariant-loop-f l = map (λ x. x.now) l.names.items ++ function_names (map function (drop l.f-index l.fns)) ≡ function_names (map function l.fns)
