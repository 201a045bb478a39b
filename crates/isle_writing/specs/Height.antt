-- How deep parentheses and `@` nest in a definition.
use Rattle.std.specs.Prelude.{ℕ, suc, max, List, [], ◌∷◌}
use Rattle.isle_ast.specs.Tree.{Pattern, Patterns, NoPattern, APattern, Expr, Exprs, NoExpr, AnExpr, Lets, NoLet, ALet, IfLet, Def}
use Rattle.isle_ast.specs.Tree as tree
use Rattle.isle_ast.specs.Views.{patterns_of}

abbrev mutual
  -- in a pattern
  pub pattern_height : Pattern → ℕ
  pattern_height (tree.Int n) = 0
  pattern_height (tree.Truth b) = 0
  pattern_height (tree.Const name) = 0
  pattern_height tree.Wildcard = 0
  pattern_height (tree.Var name) = 0
  pattern_height (tree.Bind name p) = suc (pattern_height p)
  pattern_height (tree.And ps) = suc (patterns_height ps)
  pattern_height (tree.Term name ps) = suc (patterns_height ps)

  -- in the deepest of patterns
  pub patterns_height : Patterns → ℕ
  patterns_height NoPattern = 0
  patterns_height (APattern p ps) = max (pattern_height p) (patterns_height ps)

abbrev mutual
  -- in an expression
  pub expr_height : Expr → ℕ
  expr_height (tree.Number n) = 0
  expr_height (tree.Fact b) = 0
  expr_height (tree.Constant name) = 0
  expr_height (tree.Name name) = 0
  expr_height (tree.Let ls e) = suc (max (suc (lets_height ls)) (expr_height e))
  expr_height (tree.Call name es) = suc (exprs_height es)

  -- in the deepest of expressions
  pub exprs_height : Exprs → ℕ
  exprs_height NoExpr = 0
  exprs_height (AnExpr e es) = max (expr_height e) (exprs_height es)

  -- in the deepest variable of a `let`
  pub lets_height : Lets → ℕ
  lets_height NoLet = 0
  lets_height (ALet var ty e ls) = max (suc (expr_height e)) (lets_height ls)

-- in the deepest of conditions
abbrev pub iflets_height : List IfLet → ℕ
iflets_height [] = 0
iflets_height (i ∷ is) = max (suc (max (pattern_height i.lhs) (expr_height i.rhs))) (iflets_height is)

-- at most, in a definition: in a type's the fields of its variants are the deepest
abbrev pub def_height : Def → ℕ
def_height (tree.TypeDecl name is_extern is_nodebug body at) = 4
def_height (tree.Decl term pure multi partial recursive args ret at) = 2
def_height (tree.ExternConstructor term func at) = 1
def_height (tree.ExternExtractor term func infallible at) = 1
def_height (tree.ExternConst name ty at) = 1
def_height (tree.Extractor term params p at) = suc (max 1 (pattern_height p))
def_height (tree.Converter from to term at) = 1
def_height (tree.Rule name prio term args iflets rhs at) = suc (max (suc (patterns_height (patterns_of args))) (max (iflets_height iflets) (expr_height rhs)))
def_height (tree.Passed head at) = 1
