use Rattle.std.proofs.Common.{drop}
use Rattle.std.specs.Prelude.{◌↔◌}
use Rattle.std.specs.List.{AllByRecursion}
use Rattle.isle_tree.specs.WellFormed.{IsTypeItem}
use Rattle.isle_tree.proofs.type_items.are_type_items.Given as goal

abbrev pub invariant-loop-item : goal.invariant-loop-item
invariant-loop-item l = AllByRecursion IsTypeItem (drop l.item-index l.items) ↔ AllByRecursion IsTypeItem l.items
