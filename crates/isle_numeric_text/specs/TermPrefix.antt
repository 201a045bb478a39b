-- What the name of each term of the numeric prelude begins with.
use Rattle.std.specs.Prelude.{◌≡◌, ℕ, List}
use Rattle.isle_numerics.specs.declared.numeric_type.NumericType.{NumericType}
use Rattle.isle_numerics.specs.Definitions.{name_of, prefixed}
use Rattle.isle_numerics.specs.NumericTypes.{IsNumeric}

-- a name that begins with that of one of the ten types, and `_` after it
pub record IsPrefixed (name : List ℕ) : Type 0 where
  pub ty : NumericType
  pub numeric : IsNumeric ty
  pub rest : List ℕ
  pub is : name ≡ prefixed (name_of ty) rest
