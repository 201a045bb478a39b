-- The path of what a right side gives.
use Rattle.std.specs.Prelude.{ℕ, ◌+◌, Option, Some, None}
use Rattle.isle_base.specs.declared.ids.TermId.{TermId}
use Rattle.isle_base.specs.declared.ids.TypeId.{TypeId}
use Rattle.isle_core.specs.Expr as expr
use Rattle.isle_core.specs.Expr.{Expr, Exprs, NoExpr, AnExpr, LetBindings, NoBinding, ABinding}
use Rattle.isle_core.specs.Calling.{calling, instance_of, impure, impure_all, impure_bindings}
use Rattle.isle_core.specs.Match.{with}
pub use Rattle.isle_core.specs.Opening.{answer_path}
use Rattle.isle_core.specs.Making.{Making, MakesVariant, MakesStruct, MakesNothing, making}
use Rattle.isle_core.specs.Path.{Path, Nowhere, ConstBool, ConstInt, ConstPrim, Called, MadeVariant, MadeStruct, Paths, NoPath, APath}
use Rattle.isle_core.specs.Rule.{Environment}

-- the path of each variable, by its number
abbrev pub Places : Type 0
Places = ℕ → Option Path

-- no variable has a path
abbrev pub no_places : Places
no_places var = None

-- bool is the first of the types
abbrev pub bool_type : TypeId
bool_type = record { 0 = 0 }

-- the path of a variable; one that has none stands nowhere
abbrev pub path_or : Option Path → Path
path_or None = Nowhere
path_or (Some p) = p

-- the path of what a term makes of paths, or of a call of it with this occurrence
abbrev pub term_path : Making → TermId → Paths → (instance : ℕ) → Path
term_path (MakesVariant ty variant) term ps instance = MadeVariant ty variant ps
term_path (MakesStruct ty) term ps instance = MadeStruct ty ps
term_path MakesNothing term ps instance = Called term ps instance

-- the path of a term on paths, after n impure calls
abbrev pub call_path : Environment → TermId → Paths → ℕ → Path
call_path env term ps n = term_path (making env term) term ps (instance_of (calling env term) n)

-- the path of an expression's value, after n impure calls of the rules
abbrev mutual
  pub path : Environment → Expr → Places → ℕ → Path
  path env (expr.ConstBool b) places n = ConstBool bool_type b
  path env (expr.ConstInt ty k) places n = ConstInt ty k
  path env (expr.Var ty x) places n = path_or (places x.0)
  path env (expr.Term ty term es) places n = answer_path (calling env term) (call_path env term (paths env es places n) (n + impure_all env es))
  path env (expr.ConstPrim ty name) places n = ConstPrim name
  path env (expr.Let ty bindings inner) places n = path env inner (let_places env bindings places n) (n + impure_bindings env bindings)

  -- of expressions in order
  pub paths : Environment → Exprs → Places → ℕ → Paths
  paths env NoExpr places n = NoPath
  paths env (AnExpr e es) places n = APath (path env e places n) (paths env es places (n + impure env e))

  -- the paths of variables after those of a `let`
  pub let_places : Environment → LetBindings → Places → ℕ → Places
  let_places env NoBinding places n = places
  let_places env (ABinding x ty e more) places n = let_places env more (with places x.0 (path env e places n)) (n + impure env e)
