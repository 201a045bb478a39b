-- The constants that stand in rules, written or named, each with its type.
use Rattle.std.specs.Prelude.{ℤ, List, [], ◌∷◌, ◌++◌, Bool}
use Rattle.isle_base.specs.declared.ids.Sym.{Sym}
use Rattle.isle_base.specs.declared.ids.TypeId.{TypeId}
use Rattle.isle_core.specs.Pattern as pattern
use Rattle.isle_core.specs.Pattern.{Pattern, Patterns, NoPattern, APattern}
use Rattle.isle_core.specs.Expr as expr
use Rattle.isle_core.specs.Expr.{Expr, Exprs, NoExpr, AnExpr, LetBindings, NoBinding, ABinding}
use Rattle.isle_core.specs.RightSide.{bool_type}
use Rattle.isle_core.specs.Rule.{IfLet, Rule}

-- a truth or a number that is written, or a name
pub data Constant : Type 0 where
  Truth : Bool → Constant
  Number : ℤ → Constant
  Named : Sym → Constant

-- a constant with its type
abbrev pub TypedConstant : Type 0
TypedConstant = TypeId × Constant

-- the constants of a pattern
abbrev mutual
  pub pattern_constants : Pattern → List TypedConstant
  pattern_constants (pattern.ConstBool b) = (bool_type, Truth b) ∷ []
  pattern_constants (pattern.ConstInt ty n) = (ty, Number n) ∷ []
  pattern_constants (pattern.ConstPrim ty name) = (ty, Named name) ∷ []
  pattern_constants (pattern.Term ty term ps) = patterns_constants ps
  pattern_constants (pattern.BindPattern ty x p) = pattern_constants p
  pattern_constants (pattern.And ty ps) = patterns_constants ps
  pattern_constants (pattern.Var ty x) = []
  pattern_constants (pattern.Wildcard ty) = []

  pub patterns_constants : Patterns → List TypedConstant
  patterns_constants NoPattern = []
  patterns_constants (APattern p ps) = pattern_constants p ++ patterns_constants ps

-- the constants of an expression
abbrev mutual
  pub expr_constants : Expr → List TypedConstant
  expr_constants (expr.ConstBool b) = (bool_type, Truth b) ∷ []
  expr_constants (expr.ConstInt ty n) = (ty, Number n) ∷ []
  expr_constants (expr.ConstPrim ty name) = (ty, Named name) ∷ []
  expr_constants (expr.Term ty term es) = exprs_constants es
  expr_constants (expr.Let ty bindings inner) = bindings_constants bindings ++ expr_constants inner
  expr_constants (expr.Var ty x) = []

  pub exprs_constants : Exprs → List TypedConstant
  exprs_constants NoExpr = []
  exprs_constants (AnExpr e es) = expr_constants e ++ exprs_constants es

  pub bindings_constants : LetBindings → List TypedConstant
  bindings_constants NoBinding = []
  bindings_constants (ABinding x ty e more) = expr_constants e ++ bindings_constants more

-- those of the patterns of a rule's arguments
abbrev pub args_constants : List Pattern → List TypedConstant
args_constants [] = []
args_constants (p ∷ ps) = pattern_constants p ++ args_constants ps

-- those of conditions
abbrev pub iflets_constants : List IfLet → List TypedConstant
iflets_constants [] = []
iflets_constants (c ∷ cs) = (expr_constants c.rhs ++ pattern_constants c.lhs) ++ iflets_constants cs

-- those of a rule
abbrev pub rule_constants : Rule → List TypedConstant
rule_constants r = (args_constants r.args ++ iflets_constants r.iflets) ++ expr_constants r.rhs

-- those of rules
abbrev pub rules_constants : List Rule → List TypedConstant
rules_constants [] = []
rules_constants (r ∷ rs) = rule_constants r ++ rules_constants rs
