use Rattle.std.proofs.Common.{◌≡◌, drop}
use Rattle.isle_prelude.specs.Arrays.{block_array_sizes}
use Rattle.isle_prelude.proofs.SizeLaws.{sizes_from, block_size}
use Rattle.isle_prelude.proofs.arrays.block_array_sizes.Given as goal

abbrev pub invariant-loop-format : goal.invariant-loop-format
invariant-loop-format l = sizes_from block_size l.sizes.keys (drop l.format-index l.formats) ≡ block_array_sizes l.formats
