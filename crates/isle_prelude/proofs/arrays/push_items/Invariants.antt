use Rattle.std.proofs.Common.{◌≡◌, ◌++◌, string_bytes}
use Rattle.isle_prelude.specs.TypePieces.{items_piece}
use Rattle.isle_prelude.proofs.arrays.push_items.Given as goal

abbrev pub invariant-loop-index : goal.invariant-loop-index
invariant-loop-index l = string_bytes l.text ≡ string_bytes l.fn.text ++ items_piece l.index l.item
