use Rattle.std.proofs.Common.{◌≡◌, ◌++◌, map, drop}
use Rattle.isle_operand_names.specs.Occurring.{param_types}
use Rattle.isle_operand_names.proofs.program_types.push_params.Given as goal

abbrev pub invariant-loop-param : goal.invariant-loop-param
invariant-loop-param l = map (λ x. x.now) l.names.items ++ param_types (drop l.param-index l.params) ≡ map (λ x. x.now) l.fn.names.items ++ param_types l.params
