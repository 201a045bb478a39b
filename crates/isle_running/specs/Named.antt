-- How the code finds values by their names.
use Rattle.std.specs.Prelude.{◌≡◌, ℕ, List, Option, option_map, find}
use Rattle.std.specs.BTreeMap.{BTreeMap, get_by}
use Rattle.std.specs.Cmp.Lexicographic.{slice_cmp}
use Rattle.std.specs.Ordering.{nat_cmp}
use Rattle.std.specs.Str.{bytes_eq}
use denote.Ref.{Bor}
use Rattle.isle_core.specs.declared.values.Value.{Value as CodeValue}

-- the value of the first of these that has the name
abbrev pub value_named : List (List ℕ × CodeValue) → List ℕ → Option CodeValue
value_named vs name = option_map (λ (v : List ℕ × CodeValue). v.1) (find (λ (v : List ℕ × CodeValue). bytes_eq name v.0) vs)

-- what the map has at a name
abbrev pub at_value : BTreeMap (Bor (List ℕ)) (Bor CodeValue) → List ℕ → Option CodeValue
at_value found name = option_map (λ (v : Bor CodeValue). v.now) (get_by (λ (k : Bor (List ℕ)). slice_cmp nat_cmp name k.now) found)

-- the map has the first value of each name
pub record FindsValues (vs : List (List ℕ × CodeValue)) (found : BTreeMap (Bor (List ℕ)) (Bor CodeValue)) : Type 0 where
  pub finds : (name : List ℕ) → at_value found name ≡ value_named vs name
