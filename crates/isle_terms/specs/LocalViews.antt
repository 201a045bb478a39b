-- What contracts see of the variables that the code keeps.
use Rattle.std.specs.Prelude.{ℕ, List, [], ◌∷◌, Option, refl}
use Rattle.std.specs.Coded.{Coded, coded_list, coded_option, coded×, coded_ℕ, code_by}
use Rattle.isle_core.specs.declared.TypeId.{TypeId}
use Rattle.isle_terms.specs.declared.locals.LetVariable.{LetVariable}
use Rattle.isle_terms.specs.Locals.{Bound}
use Rattle.isle_terms.specs.Scope.{Local, Scope}

-- a variable of a `let`
abbrev pub local : LetVariable → Local
local v = record { name = v.name.now; ty = v.ty; number = v.number }

-- its name
abbrev pub name_of : LetVariable → List ℕ
name_of v = v.name.now

-- variables of patterns: their names, with their types and numbers
abbrev pub entries : List (List ℕ) → List (Option TypeId × ℕ) → List Local
entries [] vs = []
entries (name ∷ names) [] = []
entries (name ∷ names) (v ∷ vs) = record { name = name; ty = v.0; number = v.1 } ∷ entries names vs

abbrev coded_type : Coded TypeId
coded_type = code_by ℕ coded_ℕ (λ t. t.0) (λ n. record { 0 = n }) (λ t. refl)

abbrev coded_local : Coded Local
coded_local = code_by (List ℕ × (Option TypeId × ℕ)) (coded× (coded_list coded_ℕ) (coded× (coded_option coded_type) coded_ℕ)) (λ l. (l.name, (l.ty, l.number))) (λ t. record { name = t.0; ty = t.1.0; number = t.1.1 }) (λ l. refl)

-- the code of the variables of patterns
abbrev pub coded_scope : Coded Scope
coded_scope = code_by (List Local × ℕ) (coded× (coded_list coded_local) coded_ℕ) (λ s. (s.variables, s.next)) (λ t. record { variables = t.0; next = t.1 }) (λ s. refl)

-- the code of what is kept
abbrev pub coded_bound : Coded Bound
coded_bound = code_by (Scope × (List Local × ℕ)) (coded× coded_scope (coded× (coded_list coded_local) coded_ℕ)) (λ b. (b.patterns, (b.lets, b.next))) (λ t. record { patterns = t.0; lets = t.1.0; next = t.1.1 }) (λ b. refl)
