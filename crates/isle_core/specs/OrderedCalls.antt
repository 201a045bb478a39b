-- The calls of a right side whose order counts: the impure and the fallible ones, and those that answer several times and hold an impure call,
-- in the order of evaluation.
use Rattle.std.specs.Prelude.{ℕ, ◌+◌, List, [], ◌∷◌, ◌++◌, ◌||◌, ◌&&◌, if◌then◌else◌}
use Rattle.isle_core.specs.Expr as expr
use Rattle.isle_core.specs.Expr.{Expr, Exprs, NoExpr, AnExpr, LetBindings, NoBinding, ABinding}
use Rattle.isle_core.specs.HoldsImpure.{holds_impure}
use Rattle.isle_core.specs.Calling.{Calling, calling, answers_often, is_ordered, impure, impure_all, impure_bindings}
use Rattle.isle_core.specs.Match.{with}
use Rattle.isle_core.specs.Path.{Path}
use Rattle.isle_core.specs.RightSide.{call_path, path, paths, let_places}
use Rattle.isle_core.specs.Rule.{Environment, Rule}
use Rattle.isle_core.specs.Tests.{Places, rule_places}

-- a call whose place counts
abbrev pub if_ordered : Environment → Calling → Path → List Path
if_ordered env c p = if is_ordered c || (answers_often c && holds_impure env p) then p ∷ [] else []

-- those of an expression, after n impure calls
abbrev mutual
  pub calls : Environment → Expr → Places → ℕ → List Path
  calls env (expr.Term ty term es) places n = calls_all env es places n ++ if_ordered env (calling env term) (call_path env term (paths env es places n) (n + impure_all env es))
  calls env (expr.ConstBool b) places n = []
  calls env (expr.ConstInt ty k) places n = []
  calls env (expr.Var ty x) places n = []
  calls env (expr.ConstPrim ty name) places n = []
  calls env (expr.Let ty bindings inner) places n = calls_bindings env bindings places n ++ calls env inner (let_places env bindings places n) (n + impure_bindings env bindings)

  pub calls_all : Environment → Exprs → Places → ℕ → List Path
  calls_all env NoExpr places n = []
  calls_all env (AnExpr e es) places n = calls env e places n ++ calls_all env es places (n + impure env e)

  -- those of the values of a `let`
  pub calls_bindings : Environment → LetBindings → Places → ℕ → List Path
  calls_bindings env NoBinding places n = []
  calls_bindings env (ABinding x ty e more) places n = calls env e places n ++ calls_bindings env more (with places x.0 (path env e places n)) (n + impure env e)

-- those of a rule's right side, after n impure calls of the rules before
abbrev pub rule_calls : Environment → Rule → ℕ → List Path
rule_calls env r n = calls env r.rhs (rule_places env r) n
