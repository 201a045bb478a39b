-- Integers of 128 bits, as the values of their type.
use Rattle.std.proofs.Common.{◌≡◌}
use Rattle.std.specs.Prelude.{ℤ}
use Rattle.std.specs.Int.{w128, int_wrap}
use Rattle.std.specs.Int.RustNames.{FitsSigned}
use Rattle.std.proofs.lemmas.Int.{int_wrap_fits}
use Rattle.isle_core.specs.declared.types.IntType.TheVariants.{U128, I128}
use Rattle.isle_core.specs.Int.{wrapped}
use Rattle.isle_terms.specs.Reduced.{reduced}

-- 128 bits hold a number of 128 bits as it is
pub reduced-u128 : (z : ℤ) → FitsSigned w128 z → reduced U128 z ≡ z
unfolding int_wrap
reduced-u128 z f = int_wrap_fits w128 z f

pub reduced-i128 : (z : ℤ) → FitsSigned w128 z → reduced I128 z ≡ z
unfolding int_wrap wrapped
reduced-i128 z f = int_wrap_fits w128 z f

pub ruleset reduced_is = (reduced-u128, reduced-i128)
