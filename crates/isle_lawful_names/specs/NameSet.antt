-- Names as a set of the code keeps them.
use Rattle.std.specs.Prelude.{◌≡◌, ℕ, List, Bool}
use Rattle.std.specs.List.{list_any}
use Rattle.std.specs.Str.{bytes_eq}
use Rattle.std.specs.BTreeSet.{BTreeSet, contains_by}
use Rattle.std.specs.Cmp.Lexicographic.{slice_cmp}
use Rattle.std.specs.Ordering.{nat_cmp}
use denote.Ref.{Bor}

-- whether the set has the name
abbrev pub has_name : BTreeSet (Bor (List ℕ)) → List ℕ → Bool
has_name set name = contains_by (λ (k : Bor (List ℕ)). slice_cmp nat_cmp name k.now) set

-- the set has these names and no others
abbrev pub HasNames : List (List ℕ) → BTreeSet (Bor (List ℕ)) → Type 0
HasNames names set = (name : List ℕ) → has_name set name ≡ list_any (bytes_eq name) names
