-- How many nodes rules have.
use Rattle.std.specs.Prelude.{ℕ, suc, ◌+◌, List, [], ◌∷◌, map}
use Rattle.isle_core.specs.Pattern as pattern
use Rattle.isle_core.specs.Pattern.{Pattern, Patterns, NoPattern, APattern}
use Rattle.isle_core.specs.Expr as expr
use Rattle.isle_core.specs.Expr.{Expr, Exprs, NoExpr, AnExpr, LetBindings, NoBinding, ABinding}
use Rattle.isle_core.specs.Rule.{Rule, IfLet}

-- a pattern's parts, itself with them
abbrev mutual
  pub pattern_nodes : Pattern → ℕ
  pattern_nodes (pattern.BindPattern ty x p) = suc (pattern_nodes p)
  pattern_nodes (pattern.Var ty x) = 1
  pattern_nodes (pattern.ConstBool b) = 1
  pattern_nodes (pattern.ConstInt ty n) = 1
  pattern_nodes (pattern.ConstPrim ty name) = 1
  pattern_nodes (pattern.Term ty term ps) = suc (patterns_nodes ps)
  pattern_nodes (pattern.Wildcard ty) = 1
  pattern_nodes (pattern.And ty ps) = suc (patterns_nodes ps)

  pub patterns_nodes : Patterns → ℕ
  patterns_nodes NoPattern = 0
  patterns_nodes (APattern p ps) = pattern_nodes p + patterns_nodes ps

-- an expression's, each variable of a `let` too
abbrev mutual
  pub expr_nodes : Expr → ℕ
  expr_nodes (expr.Term ty term es) = suc (exprs_nodes es)
  expr_nodes (expr.Var ty x) = 1
  expr_nodes (expr.ConstBool b) = 1
  expr_nodes (expr.ConstInt ty n) = 1
  expr_nodes (expr.ConstPrim ty name) = 1
  expr_nodes (expr.Let ty bindings e) = suc (bindings_nodes bindings + expr_nodes e)

  pub exprs_nodes : Exprs → ℕ
  exprs_nodes NoExpr = 0
  exprs_nodes (AnExpr e es) = expr_nodes e + exprs_nodes es

  pub bindings_nodes : LetBindings → ℕ
  bindings_nodes NoBinding = 0
  bindings_nodes (ABinding x ty e bindings) = suc (expr_nodes e + bindings_nodes bindings)

-- numbers added up
abbrev pub total : List ℕ → ℕ
total [] = 0
total (n ∷ ns) = n + total ns

-- a condition's
abbrev pub condition_nodes : IfLet → ℕ
condition_nodes c = pattern_nodes c.lhs + expr_nodes c.rhs

-- a rule's
abbrev pub rule_nodes : Rule → ℕ
rule_nodes r = total (map pattern_nodes r.args) + total (map condition_nodes r.iflets) + expr_nodes r.rhs
