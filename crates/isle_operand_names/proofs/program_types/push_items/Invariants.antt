use Rattle.std.proofs.Common.{◌≡◌, ◌++◌, map, drop, flat_map}
use Rattle.isle_operand_names.specs.Occurring.{item_types}
use Rattle.isle_operand_names.proofs.program_types.push_items.Given as goal

abbrev pub invariant-loop-item : goal.invariant-loop-item
invariant-loop-item l = map (λ x. x.now) l.names.items ++ flat_map item_types (drop l.item-index l.items) ≡ map (λ x. x.now) l.fn.names.items ++ flat_map item_types l.items
