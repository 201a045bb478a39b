-- The variables of an expression: those of the patterns, and those of the `let`s around it.
use Rattle.std.specs.Prelude.{ℕ, List, [], ◌∷◌, ◌++◌, Option, Some, None, fold, if◌then◌else◌}
use Rattle.std.specs.Str.{bytes_eq}
use Rattle.isle_core.specs.declared.TypeId.{TypeId}
use Rattle.isle_terms.specs.Scope.{is_blank}
use Rattle.isle_terms.specs.Scope.{Local, Scope}

-- a variable of a name, after what was found before
abbrev pub newest : List ℕ → Option Local → Local → Option Local
newest name found l = if bytes_eq l.name name then Some l else found

-- the variable of a name, among these in the order in which they were bound: what is bound last counts
abbrev pub local_named : List Local → List ℕ → Option Local
local_named locals name = fold (newest name) None locals

-- variables, the first of them last
abbrev pub latest_first : List Local → List Local
latest_first [] = []
latest_first (l ∷ ls) = latest_first ls ++ l ∷ []

-- the variables of patterns, the first of them last: patterns bind each name once, so their order is all one
abbrev pub of_patterns : Scope → List Local
of_patterns scope = latest_first scope.variables

-- the variables after one of a `let`; `_` names none
abbrev pub bound_local : List Local → List ℕ → Option TypeId → ℕ → List Local
bound_local locals name ty number = if is_blank name then locals else locals ++ record { name = name; ty = ty; number = number } ∷ []

-- what the code keeps of them: those of the patterns, those of the `let`s, and the next number that is free
pub record Bound : Type 0 where
  pub patterns : Scope
  pub lets : List Local
  pub next : ℕ

-- those of the patterns, and then those of the `let`s
abbrev pub locals_of : Bound → List Local
locals_of b = of_patterns b.patterns ++ b.lets
