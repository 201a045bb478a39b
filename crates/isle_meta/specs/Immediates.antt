-- The immediates of formats: their names, and which have values that their type can't have.
use Rattle.std.specs.Prelude.{ℕ, List, [], ◌∷◌, ◌++◌, Bool, true, false, ◌&&◌, ◌||◌, not, Option, Some, None}
use Rattle.std.specs.List.{list_all, list_any}
use Rattle.std.specs.Option.{unwrap_or}
use Rattle.std.specs.Str.{bytes_eq}
use Rattle.isle_meta.specs.declared.clif.ImmField.{ImmField}
use Rattle.isle_meta.specs.ShortName.{short_name}
use Rattle.isle_meta.specs.TableNames.{is_among, repeats}

-- the short name of an immediate's type
abbrev pub type_of : ImmField → List ℕ
type_of field = short_name field.rust_type

-- the values of its type, if it is an enum
abbrev pub values_of : ImmField → List (List ℕ)
values_of field = unwrap_or field.values []

-- the names of an immediate: its member, its short name and its values
abbrev pub imm_names : ImmField → List (List ℕ)
imm_names field = field.member ∷ type_of field ∷ values_of field

-- each of these values is one of those
abbrev pub are_among : List (List ℕ) → List (List ℕ) → Bool
are_among xs ys = list_all (λ x. is_among x ys) xs

-- the same values in any order; no values and an empty list of them differ
abbrev pub same_values : Option (List (List ℕ)) → Option (List (List ℕ)) → Bool
same_values None None = true
same_values None (Some ys) = false
same_values (Some xs) None = false
same_values (Some xs) (Some ys) = are_among xs ys && are_among ys xs

-- one of these fields has a type of the short name, with other values
abbrev pub has_others : List ImmField → List ℕ → Option (List (List ℕ)) → Bool
has_others fields name values = list_any (λ (field : ImmField). bytes_eq name (type_of field) && not (same_values field.values values)) fields

-- a field after these: a value of it repeats, or one of these has a type of its short name with other values
abbrev pub is_misshapen : (earlier : List ImmField) → ImmField → Bool
is_misshapen earlier field = repeats (values_of field) || has_others earlier (type_of field) field.values

-- one of the fields is so, each after those before it
abbrev pub are_misshapen : (earlier : List ImmField) → List ImmField → Bool
are_misshapen earlier [] = false
are_misshapen earlier (field ∷ fields) = is_misshapen earlier field || are_misshapen (earlier ++ field ∷ []) fields
