-- What the code that looks up names sees.
use Rattle.std.specs.Prelude.{ℕ, List, map, Option}
use Rattle.std.specs.BTreeMap.{BTreeMap, get_by}
use Rattle.std.specs.Cmp.Lexicographic.{slice_cmp}
use Rattle.std.specs.Ordering.{nat_cmp}
use denote.Ref.{Bor}

-- texts behind references
abbrev pub texts : List (Bor (List ℕ)) → List (List ℕ)
texts names = map (λ (n : Bor (List ℕ)). n.now) names

-- what the map has at a name
abbrev pub at_name : {X : Type 0} → BTreeMap (Bor (List ℕ)) X → List ℕ → Option X
at_name found name = get_by (λ (k : Bor (List ℕ)). slice_cmp nat_cmp name k.now) found
