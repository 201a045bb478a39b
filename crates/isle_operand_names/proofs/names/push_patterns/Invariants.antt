use Rattle.std.proofs.Common.{◌≡◌, ◌++◌, map, drop}
use Rattle.isle_tree.specs.Views.{arms}
use Rattle.isle_operand_names.specs.Names.{patterns_names}
use Rattle.isle_operand_names.proofs.names.push_patterns.Given as goal

abbrev pub invariant-loop-arm : goal.invariant-loop-arm
invariant-loop-arm l = map (λ x. x.now) l.names.items ++ patterns_names (arms (drop l.arm-index l.given)) ≡ map (λ x. x.now) l.fn.names.items ++ patterns_names (arms l.given)
