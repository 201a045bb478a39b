-- How the code finds the functions of terms.
use Rattle.std.specs.Prelude.{◌≡◌, ℕ, List, Option, map, option_map}
use Rattle.std.specs.BTreeMap.{BTreeMap, get_by}
use Rattle.std.specs.Cmp.Lexicographic.{slice_cmp}
use Rattle.std.specs.Ordering.{nat_cmp}
use denote.Ref.{Bor}
use Rattle.isle_tree.specs.declared.tree.Function.{Function as CodeFunction}
use Rattle.isle_tree.specs.Program.{Function}
use Rattle.isle_tree.specs.Run.{function_of}
use Rattle.isle_tree.specs.Views.{function}

-- what the map has at a term
abbrev pub at_term : BTreeMap (Bor (List ℕ)) (Bor CodeFunction) → List ℕ → Option Function
at_term found term = option_map (λ (f : Bor CodeFunction). function f.now) (get_by (λ (k : Bor (List ℕ)). slice_cmp nat_cmp term k.now) found)

-- the map has the first function of each term
pub record FindsTerms (fns : List CodeFunction) (found : BTreeMap (Bor (List ℕ)) (Bor CodeFunction)) : Type 0 where
  pub finds : (term : List ℕ) → at_term found term ≡ function_of term (map function fns)
