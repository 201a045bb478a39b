-- The variables of rules with their types.
use Rattle.std.specs.Prelude.{◌≡◌, ℕ, List, [], ◌∷◌, ◌++◌, Contains}
use Rattle.isle_base.specs.declared.ids.TypeId.{TypeId}
use Rattle.isle_core.specs.Pattern as pattern
use Rattle.isle_core.specs.Pattern.{Pattern, Patterns, NoPattern, APattern}
use Rattle.isle_core.specs.Expr.{LetBindings, NoBinding, ABinding}
use Rattle.isle_core.specs.Rule.{IfLet, Rule}

-- the variables of a pattern with their types, in order
abbrev mutual
  pub typed_variables : Pattern → List (TypeId × ℕ)
  typed_variables (pattern.Var of x) = (of, x.0) ∷ []
  typed_variables (pattern.BindPattern of x q) = (of, x.0) ∷ typed_variables q
  typed_variables (pattern.Term of term qs) = typed_within qs
  typed_variables (pattern.And of qs) = typed_within qs
  typed_variables (pattern.ConstBool b) = []
  typed_variables (pattern.ConstInt of n) = []
  typed_variables (pattern.ConstPrim of name) = []
  typed_variables (pattern.Wildcard of) = []

  -- those of the parts of a pattern
  pub typed_within : Patterns → List (TypeId × ℕ)
  typed_within NoPattern = []
  typed_within (APattern q qs) = typed_variables q ++ typed_within qs

-- those of patterns in order
abbrev pub all_typed : List Pattern → List (TypeId × ℕ)
all_typed [] = []
all_typed (q ∷ qs) = typed_variables q ++ all_typed qs

-- these and those of a `let`
abbrev pub let_variables : List (TypeId × ℕ) → LetBindings → List (TypeId × ℕ)
let_variables vars NoBinding = vars
let_variables vars (ABinding x ty e bindings) = let_variables ((ty, x.0) ∷ vars) bindings

-- none of these has this number
abbrev pub IsNew : List (TypeId × ℕ) → ℕ → Type 0
IsNew vars x = (ty : TypeId) → Contains vars (ty, x) → ⊥

-- these and those of conditions' patterns
abbrev pub iflets_typed : List (TypeId × ℕ) → List IfLet → List (TypeId × ℕ)
iflets_typed vars [] = vars
iflets_typed vars (c ∷ cs) = iflets_typed (vars ++ typed_variables c.lhs) cs

-- those that a rule's right side stands over
abbrev pub rule_typed : Rule → List (TypeId × ℕ)
rule_typed r = iflets_typed (all_typed r.args) r.iflets

-- each variable stands with one type
abbrev pub HaveOneType : List (TypeId × ℕ) → Type 0
HaveOneType vars = (ty of : TypeId) (x : ℕ) → Contains vars (ty, x) → Contains vars (of, x) → ty ≡ of
