use Rattle.std.proofs.Common.{◌≡◌, ◌++◌, map, drop, flat_map}
use Rattle.isle_tree.specs.Views.{function}
use Rattle.isle_operand_names.specs.Occurring.{function_types}
use Rattle.isle_operand_names.proofs.program_types.push_functions.Given as goal

abbrev pub invariant-loop-f : goal.invariant-loop-f
invariant-loop-f l = map (λ x. x.now) l.names.items ++ flat_map function_types (map function (drop l.f-index l.fns)) ≡ map (λ x. x.now) l.fn.names.items ++ flat_map function_types (map function l.fns)
