-- How the code finds the functions of the trait.
use Rattle.std.specs.Prelude.{◌≡◌, ℕ, List, Option, option_map}
use Rattle.std.specs.BTreeMap.{BTreeMap, get_by}
use Rattle.std.specs.Cmp.Lexicographic.{slice_cmp}
use Rattle.std.specs.Ordering.{nat_cmp}
use denote.Ref.{Bor}
use Rattle.isle_tree.specs.declared.tree.TraitFn.{TraitFn}
use Rattle.isle_tree.specs.WellFormed.{trait_fn}

-- what the map has at a name
abbrev pub at_name : BTreeMap (Bor (List ℕ)) (Bor TraitFn) → List ℕ → Option TraitFn
at_name found name = option_map (λ (f : Bor TraitFn). f.now) (get_by (λ (k : Bor (List ℕ)). slice_cmp nat_cmp name k.now) found)

-- the map has the first function of each name
pub record FindsCallees (fns : List TraitFn) (found : BTreeMap (Bor (List ℕ)) (Bor TraitFn)) : Type 0 where
  pub finds : (name : List ℕ) → at_name found name ≡ trait_fn fns name
