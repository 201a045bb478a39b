use Rattle.std.proofs.Common.{◌≡◌, take}
use Rattle.std.specs.Prelude.{filter_map}
use Rattle.isle_lawful_names.specs.TypeItems.{type_item}
use Rattle.isle_lawful_names.proofs.items.type_items.Given as goal

abbrev pub invariant-loop-def : goal.invariant-loop-def
invariant-loop-def l = l.items.items ≡ filter_map (type_item l.types) (take l.def-index l.types.types)
