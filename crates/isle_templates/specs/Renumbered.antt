-- A rule's variables, numbered by the places that bind them, from left to right.
use Rattle.std.specs.Prelude.{ℕ, suc, ◌==◌, List, [], ◌∷◌, ◌++◌, map, fold, flat_map, if◌then◌else◌, Option, Some, None, option_map, is_some}
use Rattle.isle_base.specs.declared.ids.VarId.{VarId}
use Rattle.isle_core.specs.Pattern as pattern
use Rattle.isle_core.specs.Pattern.{Pattern, Patterns, NoPattern, APattern}
use Rattle.isle_core.specs.Expr as expr
use Rattle.isle_core.specs.Expr.{Expr, Exprs, NoExpr, AnExpr, LetBindings, NoBinding, ABinding}
use Rattle.isle_core.specs.Rule.{Rule, IfLet}

-- the variables of a pattern, as often as they stand
abbrev mutual
  pub pattern_variables : Pattern → List ℕ
  pattern_variables (pattern.BindPattern ty x p) = x.0 ∷ pattern_variables p
  pattern_variables (pattern.Var ty x) = x.0 ∷ []
  pattern_variables (pattern.ConstBool b) = []
  pattern_variables (pattern.ConstInt ty n) = []
  pattern_variables (pattern.ConstPrim ty name) = []
  pattern_variables (pattern.Term ty term ps) = patterns_variables ps
  pattern_variables (pattern.Wildcard ty) = []
  pattern_variables (pattern.And ty ps) = patterns_variables ps

  pub patterns_variables : Patterns → List ℕ
  patterns_variables NoPattern = []
  patterns_variables (APattern p ps) = pattern_variables p ++ patterns_variables ps

-- the variables that an expression binds, each before its value
abbrev mutual
  pub bound_in : Expr → List ℕ
  bound_in (expr.Term ty term es) = all_bound_in es
  bound_in (expr.Var ty x) = []
  bound_in (expr.ConstBool b) = []
  bound_in (expr.ConstInt ty n) = []
  bound_in (expr.ConstPrim ty name) = []
  bound_in (expr.Let ty bindings e) = bindings_bound_in bindings ++ bound_in e

  pub all_bound_in : Exprs → List ℕ
  all_bound_in NoExpr = []
  all_bound_in (AnExpr e es) = bound_in e ++ all_bound_in es

  pub bindings_bound_in : LetBindings → List ℕ
  bindings_bound_in NoBinding = []
  bindings_bound_in (ABinding x ty e bindings) = x.0 ∷ bound_in e ++ bindings_bound_in bindings

-- those of a condition, its pattern first
abbrev pub condition_variables : IfLet → List ℕ
condition_variables c = pattern_variables c.lhs ++ bound_in c.rhs

-- the variables of a rule at the places that may bind them, from left to right
abbrev pub rule_variables : Rule → List ℕ
rule_variables r = flat_map pattern_variables r.args ++ flat_map condition_variables r.iflets ++ bound_in r.rhs

-- the place of a variable among these
abbrev pub place_of : List ℕ → ℕ → Option ℕ
place_of [] x = None
place_of (y ∷ ys) x = if y == x then Some 0 else option_map suc (place_of ys x)

-- variables, with one that is not there yet after them
abbrev pub joined : List ℕ → ℕ → List ℕ
joined xs x = if is_some (place_of xs x) then xs else xs ++ x ∷ []

-- a variable's number among these, or its own
abbrev pub number_or : ℕ → Option ℕ → ℕ
number_or own None = own
number_or own (Some n) = n

-- its new number
abbrev pub new_number : List ℕ → VarId → VarId
new_number order x = record { 0 = number_or x.0 (place_of order x.0) }

-- a pattern with new numbers
abbrev mutual
  pub renamed : List ℕ → Pattern → Pattern
  renamed order (pattern.BindPattern ty x p) = pattern.BindPattern ty (new_number order x) (renamed order p)
  renamed order (pattern.Var ty x) = pattern.Var ty (new_number order x)
  renamed order (pattern.ConstBool b) = pattern.ConstBool b
  renamed order (pattern.ConstInt ty n) = pattern.ConstInt ty n
  renamed order (pattern.ConstPrim ty name) = pattern.ConstPrim ty name
  renamed order (pattern.Term ty term ps) = pattern.Term ty term (all_renamed order ps)
  renamed order (pattern.Wildcard ty) = pattern.Wildcard ty
  renamed order (pattern.And ty ps) = pattern.And ty (all_renamed order ps)

  pub all_renamed : List ℕ → Patterns → Patterns
  all_renamed order NoPattern = NoPattern
  all_renamed order (APattern p ps) = APattern (renamed order p) (all_renamed order ps)

-- an expression with new numbers
abbrev mutual
  pub expr_renamed : List ℕ → Expr → Expr
  expr_renamed order (expr.Term ty term es) = expr.Term ty term (exprs_renamed order es)
  expr_renamed order (expr.Var ty x) = expr.Var ty (new_number order x)
  expr_renamed order (expr.ConstBool b) = expr.ConstBool b
  expr_renamed order (expr.ConstInt ty n) = expr.ConstInt ty n
  expr_renamed order (expr.ConstPrim ty name) = expr.ConstPrim ty name
  expr_renamed order (expr.Let ty bindings e) = expr.Let ty (bindings_renamed order bindings) (expr_renamed order e)

  pub exprs_renamed : List ℕ → Exprs → Exprs
  exprs_renamed order NoExpr = NoExpr
  exprs_renamed order (AnExpr e es) = AnExpr (expr_renamed order e) (exprs_renamed order es)

  pub bindings_renamed : List ℕ → LetBindings → LetBindings
  bindings_renamed order NoBinding = NoBinding
  bindings_renamed order (ABinding x ty e bindings) = ABinding (new_number order x) ty (expr_renamed order e) (bindings_renamed order bindings)

-- a condition with new numbers
abbrev pub condition_renamed : List ℕ → IfLet → IfLet
condition_renamed order c = record { lhs = renamed order c.lhs; rhs = expr_renamed order c.rhs }

-- the order in which a rule's variables stand first
abbrev pub order_of : Rule → List ℕ
order_of r = fold joined [] (rule_variables r)

-- a rule whose variables are numbered in this order
abbrev pub rule_renamed : List ℕ → Rule → Rule
rule_renamed order r = record { id = r.id; root_term = r.root_term; args = map (renamed order) r.args; iflets = map (condition_renamed order) r.iflets; rhs = expr_renamed order r.rhs; prio = r.prio; pos = r.pos; name = r.name }

-- a rule whose variables are numbered as they stand
abbrev pub renumbered : Rule → Rule
renumbered r = rule_renamed (order_of r) r
