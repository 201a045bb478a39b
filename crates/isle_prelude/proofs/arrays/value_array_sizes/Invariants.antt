use Rattle.std.proofs.Common.{◌≡◌, drop}
use Rattle.isle_prelude.specs.Arrays.{value_array_sizes}
use Rattle.isle_prelude.proofs.SizeLaws.{sizes_from, value_size}
use Rattle.isle_prelude.proofs.arrays.value_array_sizes.Given as goal

abbrev pub invariant-loop-format : goal.invariant-loop-format
invariant-loop-format l = sizes_from value_size l.sizes.keys (drop l.format-index l.formats) ≡ value_array_sizes l.formats
