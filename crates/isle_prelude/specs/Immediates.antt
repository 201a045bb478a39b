-- The types of immediates, each once, in ascending order.
use Rattle.std.specs.Prelude.{ℕ, List, [], ◌∷◌, map, filter, not, Bool, is_some, if◌then◌else◌}
use Rattle.std.specs.Str.{bytes_eq}
use Rattle.isle_meta.specs.declared.clif.ImmField.{ImmField}
use Rattle.isle_meta.specs.Immediates.{type_of, values_of}
use Rattle.isle_prelude.specs.Ascending.{ascending}

-- whether an immediate is an enum
abbrev pub is_enum : ImmField → Bool
is_enum i = is_some i.values

-- the types of immediates that are no enums
abbrev pub plain_types : List ImmField → List (List ℕ)
plain_types is = ascending (map type_of (filter (λ (i : ImmField). not (is_enum i)) is))

-- the types of immediates that are enums
abbrev pub enum_types : List ImmField → List (List ℕ)
enum_types is = ascending (map type_of (filter is_enum is))

-- the values of an enum, by the first immediate of this type
abbrev pub enum_values : List ImmField → List ℕ → List (List ℕ)
enum_values [] name = []
enum_values (i ∷ is) name = if bytes_eq name (type_of i) then ascending (values_of i) else enum_values is name
