-- The types of immediates as the code's map keeps them: under each short name the first field that has it.
use Rattle.std.specs.Prelude.{◌≡◌, ℕ, List, Bool, false, not, Option, Some, None}
use Rattle.std.specs.BTreeMap.{BTreeMap, get_by}
use Rattle.std.specs.Cmp.Lexicographic.{slice_cmp}
use Rattle.std.specs.Ordering.{nat_cmp}
use denote.Ref.{Bor}
use Rattle.isle_meta.specs.declared.clif.ImmField.{ImmField}
use Rattle.isle_meta.specs.Immediates.{has_others, same_values}

-- the field that the map has under the name
abbrev pub field_at : BTreeMap (Bor (List ℕ)) (Bor ImmField) → List ℕ → Option (Bor ImmField)
field_at types name = get_by (λ (k : Bor (List ℕ)). slice_cmp nat_cmp name k.now) types

-- whether a field is there, with other values
abbrev pub differs : Option (Bor ImmField) → Option (List (List ℕ)) → Bool
differs None values = false
differs (Some first) values = not (same_values first.now.values values)

-- the map tells whether one of these fields has a type of the name with other values
abbrev pub KnowsTypes : List ImmField → BTreeMap (Bor (List ℕ)) (Bor ImmField) → Type 0
KnowsTypes fields types = (name : List ℕ) (values : Option (List (List ℕ))) → has_others fields name values ≡ differs (field_at types name) values
