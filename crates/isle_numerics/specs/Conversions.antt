-- Which conversions there are between two types.
use Rattle.std.specs.Prelude.{◌↔◌, ◌⊎◌, ℤ, List, [], ◌∷◌, ◌++◌, Bool, not, ◌==◌, ◌&&◌, ◌||◌, nat_lt, if◌then◌else◌}
use Rattle.std.specs.List.{Contains}
use Rattle.isle_core.specs.Int.{IsOf}
use Rattle.isle_numerics.specs.declared.conversion.Conversion.{Conversion}
use Rattle.isle_numerics.specs.declared.conversion.Conversion.TheVariants.{Into, TryInto, UnwrapInto, TruncateInto, CastSigned, CastUnsigned}
use Rattle.isle_numerics.specs.declared.numeric_type.NumericType.{NumericType}
use Rattle.isle_numerics.specs.NumericTypes.{int_type}

-- the second type is wider, and either the first is unsigned or the second is signed
abbrev pub is_lossless : NumericType → NumericType → Bool
is_lossless from to = nat_lt from.byte_width to.byte_width && (not from.signed || to.signed)

-- the types are both signed, or both unsigned
abbrev pub have_one_sign : NumericType → NumericType → Bool
have_one_sign from to = if from.signed then to.signed else not to.signed

-- to drop the high bits, between types of one sign
abbrev pub truncations : NumericType → NumericType → List Conversion
truncations from to = if have_one_sign from to then TruncateInto ∷ [] else []

-- to read the bits with the other sign, between types of one width
abbrev pub casts : NumericType → NumericType → List Conversion
casts from to =
    if from.byte_width == to.byte_width then if to.signed then CastSigned ∷ [] else CastUnsigned ∷ [] else []

-- the conversions from a type to another, in order
abbrev pub conversions : NumericType → NumericType → List Conversion
conversions from to =
    if is_lossless from to then Into ∷ [] else TryInto ∷ UnwrapInto ∷ (truncations from to ++ casts from to)

-- every number of the first type is one of the second
abbrev pub IsWithin : NumericType → NumericType → Type 0
IsWithin from to = (z : ℤ) → IsOf (int_type from) z → IsOf (int_type to) z

-- one of the two holds, and the other doesn't
abbrev pub IsExactlyOne : Type 0 → Type 0 → Type 0
IsExactlyOne P Q = (P × ¬ Q) ⊎ (¬ P × Q)

-- of the conversion that never fails and the one that may, there is exactly one, and the first exactly if no number is lost
pub record IsConvertedAsNumbersAllow (from to : NumericType) : Type 0 where
  pub one : IsExactlyOne (Contains (conversions from to) Into) (Contains (conversions from to) TryInto)
  pub into : Contains (conversions from to) Into ↔ IsWithin from to
