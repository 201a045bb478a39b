-- The variables that patterns bind, each with the type that it was bound at, if one was known, and its number.
use Rattle.std.specs.Prelude.{ℕ, suc, List, [], ◌∷◌, ◌++◌, Bool, Option, Some, None, if◌then◌else◌, codes, max, option_map, option_and_then}
use Rattle.std.specs.Str.{bytes_eq}
use Rattle.isle_core.specs.declared.TypeId.{TypeId}
use Rattle.isle_core.specs.declared.VarId.{VarId}

-- `_` names no variable
abbrev pub is_blank : List ℕ → Bool
is_blank name = bytes_eq name (codes "_")

-- a variable, the type that it was bound at, if one was known, and its number
pub record Local : Type 0 where
  pub name : List ℕ
  pub ty : Option TypeId
  pub number : ℕ

-- variables, the oldest first, and the next number that is free
pub record Scope : Type 0 where
  pub variables : List Local
  pub next : ℕ

-- before any pattern
abbrev pub no_variables : Scope
no_variables = record { variables = []; next = 0 }

-- the first variable of a name
abbrev pub found_in : List Local → List ℕ → Option Local
found_in [] name = None
found_in (l ∷ ls) name = if bytes_eq l.name name then Some l else found_in ls name

-- the type that a variable was bound at, if it is bound
abbrev pub local_type : Option Local → Option (Option TypeId)
local_type found = option_map (λ (l : Local). l.ty) found

-- so of the variable of a name
abbrev pub bound_at : Scope → List ℕ → Option (Option TypeId)
bound_at scope name = local_type (found_in scope.variables name)

-- the scope after a variable of a pattern, which is bound if it is met first, and has the next number then
abbrev pub met_by : Option Local → Scope → List ℕ → Option TypeId → Scope
met_by None scope name expected = record { variables = scope.variables ++ record { name = name; ty = expected; number = scope.next } ∷ []; next = suc scope.next }
met_by (Some l) scope name expected = scope

-- the scope after a variable of a pattern that stands where this type is expected
abbrev pub met : Scope → List ℕ → Option TypeId → Scope
met scope name expected = met_by (found_in scope.variables name) scope name expected

-- a variable's type and number, if both are known
abbrev pub typed_local : Option Local → Option (TypeId × VarId)
typed_local found = option_and_then (λ (l : Local). option_map (λ (ty : TypeId). (ty, record { 0 = l.number })) l.ty) found

-- the type and the number of the variable of a name
abbrev pub variable : Scope → List ℕ → Option (TypeId × VarId)
variable scope name = typed_local (found_in scope.variables name)

-- variables, and the next number after these and after those numbers too
abbrev pub behind : Scope → ℕ → Scope
behind scope next = record { variables = scope.variables; next = max scope.next next }
