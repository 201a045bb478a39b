use Rattle.std.proofs.Common.{◌≡◌, ◌++◌, string_bytes}
use Rattle.std.specs.List.{flat_map}
use Rattle.isle_prelude.specs.TypePieces.{block_array_piece}
use Rattle.isle_prelude.proofs.arrays.push_block_sizes.Given as goal

abbrev pub invariant-loop-size : goal.invariant-loop-size
invariant-loop-size l = string_bytes l.text ++ flat_map block_array_piece l.size-iterator ≡ string_bytes l.initial.text ++ flat_map block_array_piece l.sizes.keys
