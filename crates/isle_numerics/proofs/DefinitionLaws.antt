-- How many definitions there are.
use Rattle.std.proofs.Common.{◌≡◌, length, refl}
use Rattle.isle_numerics.specs.Definitions.{numeric_defs}

counted : length numeric_defs ≡ 1810
unfolding numeric_defs
counted = refl
