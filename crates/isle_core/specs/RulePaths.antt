-- The paths that rules speak of.
use Rattle.std.specs.Prelude.{ℕ, suc, ◌+◌, List, [], ◌∷◌, ◌++◌, if◌then◌else◌}
use Rattle.isle_core.specs.Expr as expr
use Rattle.isle_core.specs.Expr.{Expr, Exprs, NoExpr, AnExpr, LetBindings, NoBinding, ABinding}
use Rattle.isle_core.specs.Calling.{Calling, calling, answers_often, is_fallible, impure, impure_all, impure_bindings}
use Rattle.isle_core.specs.Match.{with}
use Rattle.isle_core.specs.Opening.{Opening, AsVariant, AsStruct, ByExtractor, opening, part_path}
use Rattle.isle_core.specs.Path.{Path, Arg, ConstBool, ConstInt, ConstPrim, Extracted, Chosen, Inner}
use Rattle.isle_core.specs.Pattern as pattern
use Rattle.isle_core.specs.Pattern.{Pattern, Patterns, NoPattern, APattern}
use Rattle.isle_core.specs.RightSide.{bool_type, path_or, call_path, path, paths, let_places}
use Rattle.isle_core.specs.Rule.{Environment, IfLet, Rule}
use Rattle.isle_core.specs.Tests.{Places, no_places, after, args_after, rule_places}

-- a call, and its chosen item or its inner value if it answers several times or may be nothing
abbrev pub with_inner : Calling → Path → List Path
with_inner c p = if answers_often c then p ∷ Chosen p ∷ [] else if is_fallible c then p ∷ Inner p ∷ [] else p ∷ []

-- the paths of an expression and of all within it
abbrev mutual
  pub expr_paths : Environment → Expr → Places → ℕ → List Path
  expr_paths env (expr.Term ty term es) places n = exprs_paths env es places n ++ with_inner (calling env term) (call_path env term (paths env es places n) (n + impure_all env es))
  expr_paths env (expr.ConstBool b) places n = ConstBool bool_type b ∷ []
  expr_paths env (expr.ConstInt ty k) places n = ConstInt ty k ∷ []
  expr_paths env (expr.Var ty x) places n = path_or (places x.0) ∷ []
  expr_paths env (expr.ConstPrim ty name) places n = ConstPrim name ∷ []
  expr_paths env (expr.Let ty bindings inner) places n = bindings_paths env bindings places n ++ expr_paths env inner (let_places env bindings places n) (n + impure_bindings env bindings)

  pub exprs_paths : Environment → Exprs → Places → ℕ → List Path
  exprs_paths env NoExpr places n = []
  exprs_paths env (AnExpr e es) places n = expr_paths env e places n ++ exprs_paths env es places (n + impure env e)

  -- of the values of a `let`
  pub bindings_paths : Environment → LetBindings → Places → ℕ → List Path
  bindings_paths env NoBinding places n = []
  bindings_paths env (ABinding x ty e more) places n = expr_paths env e places n ++ bindings_paths env more (with places x.0 (path env e places n)) (n + impure env e)

-- what a term's pattern calls to take a path apart
abbrev pub opening_paths : Opening → Path → List Path
opening_paths (AsVariant ty variant) p = []
opening_paths (AsStruct ty) p = []
opening_paths (ByExtractor term c count) p = with_inner c (Extracted term p)

-- the paths of what a pattern on a path takes it apart into, and of what is within that, used or not
abbrev mutual
  pub pattern_paths : Environment → Pattern → Path → List Path
  pattern_paths env (pattern.Term ty term qs) p = opening_paths (opening env term) p ++ parts_paths env (opening env term) qs 0 p
  pattern_paths env (pattern.Var ty x) p = []
  pattern_paths env (pattern.ConstBool b) p = []
  pattern_paths env (pattern.ConstInt ty k) p = []
  pattern_paths env (pattern.ConstPrim ty name) p = []
  pattern_paths env (pattern.Wildcard ty) p = []
  pattern_paths env (pattern.BindPattern ty x q) p = pattern_paths env q p
  pattern_paths env (pattern.And ty qs) p = each_paths env qs p

  -- of the parts of what is taken apart, from the i-th on
  pub parts_paths : Environment → Opening → Patterns → ℕ → Path → List Path
  parts_paths env opened NoPattern i p = []
  parts_paths env opened (APattern q qs) i p = part_path opened i p ∷ pattern_paths env q (part_path opened i p) ++ parts_paths env opened qs (suc i) p

  -- of several patterns on one path
  pub each_paths : Environment → Patterns → Path → List Path
  each_paths env NoPattern p = []
  each_paths env (APattern q qs) p = pattern_paths env q p ++ each_paths env qs p

-- the paths of the arguments from the i-th on, and of what their patterns take apart
abbrev pub args_paths : Environment → List Pattern → ℕ → List Path
args_paths env [] i = []
args_paths env (q ∷ qs) i = Arg i ∷ pattern_paths env q (Arg i) ++ args_paths env qs (suc i)

-- the paths of conditions: of their expressions, and of what their patterns take apart
abbrev pub iflets_paths : Environment → List IfLet → Places → List Path
iflets_paths env [] places = []
iflets_paths env (c ∷ cs) places = (expr_paths env c.rhs places 0 ++ pattern_paths env c.lhs (path env c.rhs places 0)) ++ iflets_paths env cs (after env c.lhs (path env c.rhs places 0) places)

-- the paths that a rule speaks of
abbrev pub rule_paths : Environment → Rule → ℕ → List Path
rule_paths env r n = args_paths env r.args 0 ++ (iflets_paths env r.iflets (args_after env r.args 0 no_places) ++ expr_paths env r.rhs (rule_places env r) n)

-- those of rules, after n impure calls
abbrev pub rules_paths : Environment → List Rule → ℕ → List Path
rules_paths env [] n = []
rules_paths env (r ∷ rs) n = rule_paths env r n ++ rules_paths env rs (n + impure env r.rhs)
