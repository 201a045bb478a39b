-- What contracts see of the code's map of formats.
use Rattle.std.specs.Prelude.{ℕ, List, Option}
use Rattle.std.specs.BTreeMap.{BTreeMap, get_by}
use Rattle.std.specs.Cmp.Lexicographic.{slice_cmp}
use Rattle.std.specs.Ordering.{nat_cmp}
use denote.Ref.{Bor}

-- what the map has at a name
abbrev pub at_name : BTreeMap (Bor (List ℕ)) ℕ → List ℕ → Option ℕ
at_name found name = get_by (λ (k : Bor (List ℕ)). slice_cmp nat_cmp name k.now) found
