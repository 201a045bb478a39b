-- The names that stand for values, and those of fields.
use Rattle.std.specs.Prelude.{◌≡◌, ℕ, List, [], ◌∷◌, Bool, false, ◌==◌, ◌&&◌, not, nat_le, MatchBool, codes}
use Rattle.std.specs.List.{list_all}
use Rattle.isle_spelling.specs.Identifier.{IsIdentifier}

-- a digit
abbrev pub is_digit : ℕ → Bool
is_digit b = nat_le 48 b && nat_le b 57

-- digits, at least one
abbrev pub are_digits : List ℕ → Bool
are_digits [] = false
are_digits (b ∷ bs) = list_all is_digit (b ∷ bs)

-- a decimal number without a zero before it
abbrev pub is_decimal : List ℕ → Bool
is_decimal [] = false
is_decimal (b ∷ []) = is_digit b
is_decimal (b ∷ c ∷ bs) = not (b == 48) && list_all is_digit (b ∷ c ∷ bs)

-- letters, and after them digits alone
abbrev pub is_numbered : List ℕ → List ℕ → Bool
is_numbered [] w = are_digits w
is_numbered (p ∷ ps) [] = false
is_numbered (p ∷ ps) (b ∷ bs) = (p == b) && is_numbered ps bs

-- the name of a constant or a unit struct: an identifier that no local and no parameter has
pub record IsName (name : List ℕ) : Type 0 where
  pub identifier : IsIdentifier name
  pub no_local : is_numbered (codes "v") name ≡ false
  pub no_arg : is_numbered (codes "arg") name ≡ false

-- the name of a field: a decimal number, or an identifier
abbrev pub IsFieldName : List ℕ → Type 0
IsFieldName name = MatchBool (is_decimal name) (Unit {0}) (IsIdentifier name)
