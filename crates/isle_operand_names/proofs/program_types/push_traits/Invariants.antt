use Rattle.std.proofs.Common.{◌≡◌, ◌++◌, map, drop, flat_map}
use Rattle.isle_operand_names.specs.Occurring.{trait_types}
use Rattle.isle_operand_names.proofs.program_types.push_traits.Given as goal

abbrev pub invariant-loop-f : goal.invariant-loop-f
invariant-loop-f l = map (λ x. x.now) l.names.items ++ flat_map trait_types (drop l.f-index l.fns) ≡ map (λ x. x.now) l.fn.names.items ++ flat_map trait_types l.fns
