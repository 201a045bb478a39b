use Rattle.std.proofs.Common.{◌≡◌, ◌++◌, map, drop}
use Rattle.isle_tree.specs.Views.{arms}
use Rattle.isle_operand_names.specs.Occurring.{arms_types}
use Rattle.isle_operand_names.proofs.types.push_patterns.Given as goal

abbrev pub invariant-loop-arm : goal.invariant-loop-arm
invariant-loop-arm l = map (λ x. x.now) l.names.items ++ arms_types (arms (drop l.arm-index l.given)) ≡ map (λ x. x.now) l.fn.names.items ++ arms_types (arms l.given)
