-- The calls and the lists that are met where a rule is numbered.
use Rattle.std.specs.Prelude.{ℕ, suc, ◌+◌, List, [], ◌∷◌, ◌++◌, ◌||◌, ◌&&◌, if◌then◌else◌}
use Rattle.isle_core.specs.Calling.{Calling, calling, answers_often, is_ordered, impure, impure_all, impure_bindings}
use Rattle.isle_core.specs.Expr as expr
use Rattle.isle_core.specs.Expr.{Expr, Exprs, NoExpr, AnExpr, LetBindings, NoBinding, ABinding}
use Rattle.isle_core.specs.Match.{with}
use Rattle.isle_core.specs.Opening.{Opening, AsVariant, AsStruct, ByExtractor, opening, part_path}
use Rattle.isle_core.specs.Path.{Path, Arg, Extracted}
use Rattle.isle_core.specs.Pattern as pattern
use Rattle.isle_core.specs.Pattern.{Pattern, Patterns, NoPattern, APattern}
use Rattle.isle_core.specs.RightSide.{call_path, path, paths, let_places}
use Rattle.isle_core.specs.Tests.{Places, after}
use Rattle.isle_core.specs.Rule.{Environment, IfLet}
use Rattle.isle_rulesets.specs.Late.{has_turn}

-- a call whose place counts: an impure or fallible one, or a list that holds an impure call
abbrev pub call_met : Calling → Path → List Path
call_met c p = if is_ordered c || (answers_often c && has_turn p) then p ∷ [] else []

-- a call that answers several times
abbrev pub list_met : Calling → Path → List Path
list_met c p = if answers_often c then p ∷ [] else []

-- the calls of an expression whose place counts, after n impure ones
abbrev mutual
  pub expr_calls : Environment → Expr → Places → ℕ → List Path
  expr_calls env (expr.Term ty term es) places n = exprs_calls env es places n ++ call_met (calling env term) (call_path env term (paths env es places n) (n + impure_all env es))
  expr_calls env (expr.ConstBool b) places n = []
  expr_calls env (expr.ConstInt ty k) places n = []
  expr_calls env (expr.Var ty x) places n = []
  expr_calls env (expr.ConstPrim ty name) places n = []
  expr_calls env (expr.Let ty bindings inner) places n = bindings_calls env bindings places n ++ expr_calls env inner (let_places env bindings places n) (n + impure_bindings env bindings)

  -- so of expressions in order
  pub exprs_calls : Environment → Exprs → Places → ℕ → List Path
  exprs_calls env NoExpr places n = []
  exprs_calls env (AnExpr e es) places n = expr_calls env e places n ++ exprs_calls env es places (n + impure env e)

  -- and of the values of a `let`
  pub bindings_calls : Environment → LetBindings → Places → ℕ → List Path
  bindings_calls env NoBinding places n = []
  bindings_calls env (ABinding x ty e more) places n = expr_calls env e places n ++ bindings_calls env more (with places x.0 (path env e places n)) (n + impure env e)

-- the lists of an expression, after n impure calls
abbrev mutual
  pub expr_lists : Environment → Expr → Places → ℕ → List Path
  expr_lists env (expr.Term ty term es) places n = exprs_lists env es places n ++ list_met (calling env term) (call_path env term (paths env es places n) (n + impure_all env es))
  expr_lists env (expr.ConstBool b) places n = []
  expr_lists env (expr.ConstInt ty k) places n = []
  expr_lists env (expr.Var ty x) places n = []
  expr_lists env (expr.ConstPrim ty name) places n = []
  expr_lists env (expr.Let ty bindings inner) places n = bindings_lists env bindings places n ++ expr_lists env inner (let_places env bindings places n) (n + impure_bindings env bindings)

  -- so of expressions in order
  pub exprs_lists : Environment → Exprs → Places → ℕ → List Path
  exprs_lists env NoExpr places n = []
  exprs_lists env (AnExpr e es) places n = expr_lists env e places n ++ exprs_lists env es places (n + impure env e)

  -- and of the values of a `let`
  pub bindings_lists : Environment → LetBindings → Places → ℕ → List Path
  bindings_lists env NoBinding places n = []
  bindings_lists env (ABinding x ty e more) places n = expr_lists env e places n ++ bindings_lists env more (with places x.0 (path env e places n)) (n + impure env e)

-- the list of what a term's pattern calls
abbrev pub opening_lists : Opening → Path → List Path
opening_lists (AsVariant ty variant) p = []
opening_lists (AsStruct ty) p = []
opening_lists (ByExtractor term c count) p = list_met c (Extracted term p)

-- the lists of what a pattern takes apart
abbrev mutual
  pub pattern_lists : Environment → Pattern → Path → List Path
  pattern_lists env (pattern.Term ty term qs) p = opening_lists (opening env term) p ++ parts_lists env (opening env term) qs 0 p
  pattern_lists env (pattern.Var ty x) p = []
  pattern_lists env (pattern.ConstBool b) p = []
  pattern_lists env (pattern.ConstInt ty k) p = []
  pattern_lists env (pattern.ConstPrim ty name) p = []
  pattern_lists env (pattern.Wildcard ty) p = []
  pattern_lists env (pattern.BindPattern ty x q) p = pattern_lists env q p
  pattern_lists env (pattern.And ty qs) p = each_lists env qs p

  -- of its parts, from the i-th on
  pub parts_lists : Environment → Opening → Patterns → ℕ → Path → List Path
  parts_lists env opened NoPattern i p = []
  parts_lists env opened (APattern q qs) i p = pattern_lists env q (part_path opened i p) ++ parts_lists env opened qs (suc i) p

  -- of several patterns on one path
  pub each_lists : Environment → Patterns → Path → List Path
  each_lists env NoPattern p = []
  each_lists env (APattern q qs) p = pattern_lists env q p ++ each_lists env qs p

-- those of arguments from the i-th on
abbrev pub args_lists : Environment → List Pattern → ℕ → List Path
args_lists env [] i = []
args_lists env (q ∷ qs) i = pattern_lists env q (Arg i) ++ args_lists env qs (suc i)

-- those of a condition: of its expression, and of what its pattern takes apart
abbrev pub condition_lists : Environment → IfLet → Places → List Path
condition_lists env c places = expr_lists env c.rhs places 0 ++ pattern_lists env c.lhs (path env c.rhs places 0)

-- those of conditions in order
abbrev pub iflets_lists : Environment → List IfLet → Places → List Path
iflets_lists env [] places = []
iflets_lists env (c ∷ cs) places = condition_lists env c places ++ iflets_lists env cs (after env c.lhs (path env c.rhs places 0) places)
