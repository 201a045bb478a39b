use Rattle.std.proofs.Common.{◌≡◌, ◌++◌, drop}
use Rattle.std.specs.List.{AllByRecursion}
use Rattle.isle_tree.specs.WellFormed.{IsTypeItem}
use Rattle.isle_target.specs.Spelling.{types_tokens}
use Rattle.isle_target.proofs.types.print_types.Given as goal

abbrev pub invariant-loop-item : goal.invariant-loop-item
invariant-loop-item l =
    AllByRecursion IsTypeItem (drop l.item-index l.items) × (l.out ++ types_tokens (drop l.item-index l.items) ≡ l.fn.out ++ types_tokens l.items)
