-- How the code finds the types of a program, their variants and the fields of these.
use Rattle.std.specs.Prelude.{◌≡◌, ℕ, List, Option, option_map}
use Rattle.std.specs.BTreeMap.{BTreeMap, get_by}
use Rattle.std.specs.Cmp.Lexicographic.{slice_cmp}
use Rattle.std.specs.Ordering.{nat_cmp}
use denote.Ref.{Bor}
use Rattle.isle_tree.specs.declared.tree.TFields.{TFields}
use Rattle.isle_tree.specs.declared.tree.TypeItem.{TypeItem}
use Rattle.isle_places.specs.DeclaredTypes.{type_item, second_named}

-- what the map has at a name
abbrev pub at_type : BTreeMap (Bor (List ℕ)) TypeItem → List ℕ → Option TypeItem
at_type found name = get_by (λ (k : Bor (List ℕ)). slice_cmp nat_cmp name k.now) found

-- the map has the first type of each name
pub record FindsItems (types : List TypeItem) (found : BTreeMap (Bor (List ℕ)) TypeItem) : Type 0 where
  pub finds : (name : List ℕ) → at_type found name ≡ type_item types name

-- what the map has at the name of a variant
abbrev pub at_variant : BTreeMap (Bor (List ℕ)) TFields → List ℕ → Option TFields
at_variant found name = get_by (λ (k : Bor (List ℕ)). slice_cmp nat_cmp name k.now) found

-- the map has the fields of the first variant of each name
pub record FindsVariants (variants : List (List ℕ × TFields)) (found : BTreeMap (Bor (List ℕ)) TFields) : Type 0 where
  pub finds : (name : List ℕ) → at_variant found name ≡ second_named variants name

-- what the map has at the name of a field
abbrev pub at_field : BTreeMap (Bor (List ℕ)) (Bor (List ℕ)) → List ℕ → Option (List ℕ)
at_field found name = option_map (λ (ty : Bor (List ℕ)). ty.now) (get_by (λ (k : Bor (List ℕ)). slice_cmp nat_cmp name k.now) found)

-- the map has the type of the first field of each name
pub record FindsFields (fields : List (List ℕ × List ℕ)) (found : BTreeMap (Bor (List ℕ)) (Bor (List ℕ))) : Type 0 where
  pub finds : (name : List ℕ) → at_field found name ≡ second_named fields name
