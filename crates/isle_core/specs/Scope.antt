-- Which variables are in scope.
use Rattle.std.specs.Prelude.{ℕ, List, [], ◌∷◌, ◌++◌, Contains}
use Rattle.isle_core.specs.Pattern as pattern
use Rattle.isle_core.specs.Pattern.{Pattern, Patterns, NoPattern, APattern}
use Rattle.isle_core.specs.Expr as expr
use Rattle.isle_core.specs.Expr.{Expr, Exprs, NoExpr, AnExpr, LetBindings, NoBinding, ABinding}
use Rattle.isle_core.specs.Rule.{IfLet, Rule}

-- the numbers of the variables that a pattern binds
abbrev mutual
  pub variables : Pattern → List ℕ
  variables (pattern.Var ty x) = x.0 ∷ []
  variables (pattern.BindPattern ty x q) = x.0 ∷ variables q
  variables (pattern.Term ty term qs) = variables_within qs
  variables (pattern.And ty qs) = variables_within qs
  variables (pattern.ConstBool b) = []
  variables (pattern.ConstInt ty n) = []
  variables (pattern.ConstPrim ty name) = []
  variables (pattern.Wildcard ty) = []

  -- those of the parts of a pattern
  pub variables_within : Patterns → List ℕ
  variables_within NoPattern = []
  variables_within (APattern q qs) = variables q ++ variables_within qs

-- those of patterns in order
abbrev pub all_variables : List Pattern → List ℕ
all_variables [] = []
all_variables (q ∷ qs) = variables q ++ all_variables qs

-- the variables of a `let` join the scope
abbrev pub let_scope : List ℕ → LetBindings → List ℕ
let_scope scope NoBinding = scope
let_scope scope (ABinding x ty e bs) = let_scope (scope ++ x.0 ∷ []) bs

-- each variable of an expression is in scope
abbrev mutual
  pub IsInScope : List ℕ → Expr → Type 0
  IsInScope scope (expr.Var ty x) = Contains scope x.0
  IsInScope scope (expr.Term ty term es) = AreInScope scope es
  IsInScope scope (expr.ConstBool b) = Unit {0}
  IsInScope scope (expr.ConstInt ty n) = Unit {0}
  IsInScope scope (expr.ConstPrim ty name) = Unit {0}
  IsInScope scope (expr.Let ty bs inner) = AreLetsInScope scope bs × IsInScope (let_scope scope bs) inner

  -- so of expressions in order
  pub AreInScope : List ℕ → Exprs → Type 0
  AreInScope scope NoExpr = Unit {0}
  AreInScope scope (AnExpr e es) = IsInScope scope e × AreInScope scope es

  -- each value of a `let` may speak of the variables before it
  pub AreLetsInScope : List ℕ → LetBindings → Type 0
  AreLetsInScope scope NoBinding = Unit {0}
  AreLetsInScope scope (ABinding x ty e bs) = IsInScope scope e × AreLetsInScope (scope ++ x.0 ∷ []) bs

-- the variables of conditions join the scope
abbrev pub iflets_scope : List ℕ → List IfLet → List ℕ
iflets_scope scope [] = scope
iflets_scope scope (i ∷ is) = iflets_scope (scope ++ variables i.lhs) is

-- each condition may speak of the variables before it
abbrev pub AreIfLetsInScope : List ℕ → List IfLet → Type 0
AreIfLetsInScope scope [] = Unit {0}
AreIfLetsInScope scope (i ∷ is) = IsInScope scope i.rhs × AreIfLetsInScope (scope ++ variables i.lhs) is

-- each variable of a rule's conditions and right side is in scope
pub record IsScopedRule (r : Rule) : Type 0 where
  pub iflets : AreIfLetsInScope (all_variables r.args) r.iflets
  pub rhs : IsInScope (iflets_scope (all_variables r.args) r.iflets) r.rhs
