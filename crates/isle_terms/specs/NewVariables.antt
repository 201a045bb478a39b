-- The variables that a pattern binds first.
use Rattle.std.specs.Prelude.{ℕ, List, [], ◌∷◌, ◌++◌, length, fold, if◌then◌else◌, is_some}
use Rattle.isle_ast.specs.Tree as tree
use Rattle.isle_ast.specs.Tree.{Pattern, Patterns, NoPattern, APattern}
use Rattle.isle_declarations.specs.Symbols.{added}
use Rattle.isle_terms.specs.Scope.{is_blank}
use Rattle.isle_terms.specs.Scope.{Scope, bound_at}

-- the variable that `@` names; `_` names none
abbrev pub variable_of : List ℕ → List (List ℕ)
variable_of name = if is_blank name then [] else name ∷ []

-- the variables that stand in a pattern, from left to right
abbrev mutual
  pub variables_in : Pattern → List (List ℕ)
  variables_in (tree.Int n) = []
  variables_in (tree.Truth b) = []
  variables_in (tree.Const name) = []
  variables_in tree.Wildcard = []
  variables_in (tree.Var name) = name ∷ []
  variables_in (tree.Bind name p) = variable_of name ++ variables_in p
  variables_in (tree.And ps) = all_variables_in ps
  variables_in (tree.Term name ps) = all_variables_in ps

  -- so of patterns
  pub all_variables_in : Patterns → List (List ℕ)
  all_variables_in NoPattern = []
  all_variables_in (APattern p ps) = variables_in p ++ all_variables_in ps

-- the names that are new so far, with one more that is not bound yet
abbrev pub joined : Scope → List (List ℕ) → List ℕ → List (List ℕ)
joined scope new name = if is_some (bound_at scope name) then new else added new name

-- how many variables a pattern binds first after these
abbrev pub new_count : Scope → Pattern → ℕ
new_count scope p = length (fold (joined scope) [] (variables_in p))
