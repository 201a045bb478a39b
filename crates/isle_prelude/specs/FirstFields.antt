-- The first immediate of each type, as the code's map keeps them.
use Rattle.std.specs.Prelude.{◌≡◌, ℕ, List, [], ◌∷◌, Option, Some, None, option_map, if◌then◌else◌}
use Rattle.std.specs.BTreeMap.{BTreeMap}
use Rattle.std.specs.Str.{bytes_eq}
use denote.Ref.{Bor}
use Rattle.isle_meta.specs.declared.clif.ImmField.{ImmField}
use Rattle.isle_meta.specs.Immediates.{type_of}
use Rattle.isle_meta.specs.KnownTypes.{field_at}

-- the first immediate of this type
abbrev pub first_of : List ImmField → List ℕ → Option ImmField
first_of [] name = None
first_of (i ∷ is) name = if bytes_eq name (type_of i) then Some i else first_of is name

-- the map has under each type its first immediate
abbrev pub HasFirsts : List ImmField → BTreeMap (Bor (List ℕ)) (Bor ImmField) → Type 0
HasFirsts fields types = (name : List ℕ) → option_map (λ (field : Bor ImmField). field.now) (field_at types name) ≡ first_of fields name
