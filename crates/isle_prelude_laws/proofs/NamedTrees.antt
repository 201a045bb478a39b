-- Trees of rules that are of these names: terms by their numbers, variables by the places of their names.
use Rattle.std.specs.Prelude.{◌≡◌, ℕ, List, Option, Some}
use Rattle.isle_base.specs.declared.ids.TermId.{TermId}
use Rattle.isle_base.specs.declared.ids.TypeId.{TypeId}
use Rattle.isle_base.specs.declared.ids.VarId.{VarId}
use Rattle.isle_core.specs.Expr as expr
use Rattle.isle_core.specs.Expr.{Expr, Exprs, NoExpr, AnExpr}
use Rattle.isle_core.specs.Pattern as pattern
use Rattle.isle_core.specs.Pattern.{Pattern, Patterns, NoPattern, APattern}
use Rattle.isle_ast.specs.Tree as tree
use Rattle.isle_declarations.specs.Symbols.{index_of}

-- the number of the term of each name
abbrev pub Numbers : Type 0
Numbers = List ℕ → Option TermId

-- a tree of this expression: of a name or a call alone
abbrev mutual
  pub ExprNamed : Numbers → (params : List (List ℕ)) → tree.Expr → Expr → Type 0
  ExprNamed number params (tree.Name name) x = (ty : TypeId) × (v : VarId) × (x ≡ expr.Var ty v) × (index_of params name ≡ Some v.0)
  ExprNamed number params (tree.Call name es) x = (ty : TypeId) × (term : TermId) × (xs : Exprs) × (x ≡ expr.Term ty term xs) × (number name ≡ Some term) × ExprsNamed number params es xs
  ExprNamed number params (tree.Number n) x = ⊥
  ExprNamed number params (tree.Fact b) x = ⊥
  ExprNamed number params (tree.Constant name) x = ⊥
  ExprNamed number params (tree.Let lets inner) x = ⊥

  -- so in order
  pub ExprsNamed : Numbers → (params : List (List ℕ)) → tree.Exprs → Exprs → Type 0
  ExprsNamed number params tree.NoExpr xs = xs ≡ NoExpr
  ExprsNamed number params (tree.AnExpr e es) xs = (y : Expr) × (ys : Exprs) × (xs ≡ AnExpr y ys) × ExprNamed number params e y × ExprsNamed number params es ys

-- a tree of this pattern: of a variable or a term alone
abbrev mutual
  pub PatternNamed : Numbers → (params : List (List ℕ)) → tree.Pattern → Pattern → Type 0
  PatternNamed number params (tree.Var name) q = (ty : TypeId) × (v : VarId) × (q ≡ pattern.Var ty v) × (index_of params name ≡ Some v.0)
  PatternNamed number params (tree.Term name ps) q = (ty : TypeId) × (term : TermId) × (qs : Patterns) × (q ≡ pattern.Term ty term qs) × (number name ≡ Some term) × PatternsNamed number params ps qs
  PatternNamed number params (tree.Int n) q = ⊥
  PatternNamed number params (tree.Truth b) q = ⊥
  PatternNamed number params (tree.Const name) q = ⊥
  PatternNamed number params tree.Wildcard q = ⊥
  PatternNamed number params (tree.Bind name inner) q = ⊥
  PatternNamed number params (tree.And parts) q = ⊥

  -- so in order
  pub PatternsNamed : Numbers → (params : List (List ℕ)) → tree.Patterns → Patterns → Type 0
  PatternsNamed number params tree.NoPattern qs = qs ≡ NoPattern
  PatternsNamed number params (tree.APattern p ps) qs = (r : Pattern) × (rs : Patterns) × (qs ≡ APattern r rs) × PatternNamed number params p r × PatternsNamed number params ps rs

-- of the name of each term in a text this holds
abbrev mutual
  pub EachTerm : (List ℕ → Type 0) → tree.Pattern → Type 0
  EachTerm G (tree.Term name ps) = G name × EachTerms G ps
  EachTerm G (tree.Var name) = Unit {0}
  EachTerm G (tree.Int n) = ⊥
  EachTerm G (tree.Truth b) = ⊥
  EachTerm G (tree.Const name) = ⊥
  EachTerm G tree.Wildcard = ⊥
  EachTerm G (tree.Bind name inner) = ⊥
  EachTerm G (tree.And parts) = ⊥

  pub EachTerms : (List ℕ → Type 0) → tree.Patterns → Type 0
  EachTerms G tree.NoPattern = Unit {0}
  EachTerms G (tree.APattern p ps) = EachTerm G p × EachTerms G ps
