-- What contracts see of the code's rules and environments.
use denote.Ref.{Bor}
use Rattle.std.specs.Prelude.{List, [], ◌∷◌, map}
use Rattle.isle_core.specs.declared.rules.Pattern.{Pattern as CodePattern}
use Rattle.isle_core.specs.declared.rules.Pattern.TheOpen.{Pattern-F}
use Rattle.isle_core.specs.declared.rules.Pattern.TheOpen as code_pattern
use Rattle.isle_core.specs.declared.rules.Pattern.TheFolds.{fold-Pattern}
use Rattle.isle_core.specs.declared.rules.Expr.{Expr as CodeExpr}
use Rattle.isle_core.specs.declared.rules.Expr.TheOpen.{Expr-F, LetBinding-F}
use Rattle.isle_core.specs.declared.rules.Expr.TheOpen as code_expr
use Rattle.isle_core.specs.declared.rules.Expr.TheFolds.{fold-Expr}
use Rattle.isle_core.specs.declared.rules.IfLet.{IfLet as CodeIfLet}
use Rattle.isle_core.specs.declared.rules.Rule.{Rule as CodeRule}
use Rattle.isle_core.specs.declared.types.TypeEnv.{TypeEnv}
use Rattle.isle_core.specs.declared.types.TermEnv.{TermEnv}
use Rattle.isle_base.specs.declared.ids.TypeId.{TypeId}
use Rattle.isle_base.specs.declared.ids.VarId.{VarId}
use Rattle.isle_core.specs.Pattern as pure_pattern
use Rattle.isle_core.specs.Pattern.{Pattern, Patterns, NoPattern, APattern}
use Rattle.isle_core.specs.Expr as pure_expr
use Rattle.isle_core.specs.Expr.{Expr, Exprs, NoExpr, AnExpr, LetBindings, NoBinding, ABinding}
use Rattle.isle_core.specs.Rule.{IfLet, Rule, Environment}

-- patterns of a list
abbrev pub patterns_of : List Pattern → Patterns
patterns_of [] = NoPattern
patterns_of (p ∷ ps) = APattern p (patterns_of ps)

-- one pattern, if those inside it are seen already
abbrev pub pattern_step : Pattern-F Pattern → Pattern
pattern_step (code_pattern.BindPattern ty var inner) = pure_pattern.BindPattern ty var inner
pattern_step (code_pattern.Var ty var) = pure_pattern.Var ty var
pattern_step (code_pattern.ConstBool b) = pure_pattern.ConstBool b
pattern_step (code_pattern.ConstInt ty n) = pure_pattern.ConstInt ty n
pattern_step (code_pattern.ConstPrim ty name) = pure_pattern.ConstPrim ty name
pattern_step (code_pattern.Term ty term args) = pure_pattern.Term ty term (patterns_of args)
pattern_step (code_pattern.Wildcard ty) = pure_pattern.Wildcard ty
pattern_step (code_pattern.And ty parts) = pure_pattern.And ty (patterns_of parts)

-- a pattern
abbrev pub pattern : CodePattern → Pattern
pattern = fold-Pattern Pattern pattern_step

-- expressions of a list
abbrev pub exprs_of : List Expr → Exprs
exprs_of [] = NoExpr
exprs_of (e ∷ es) = AnExpr e (exprs_of es)

-- a binding of a `let`, its value seen already
abbrev pub SeenBinding : Type 0
SeenBinding = VarId × TypeId × Expr

-- bindings of a list
abbrev pub bindings_of : List SeenBinding → LetBindings
bindings_of [] = NoBinding
bindings_of (b ∷ bs) = ABinding b.0 b.1 b.2 (bindings_of bs)

-- one expression, if those inside it are seen already
abbrev pub expr_step : Expr-F Expr SeenBinding → Expr
expr_step (code_expr.Term ty term args) = pure_expr.Term ty term (exprs_of args)
expr_step (code_expr.Var ty var) = pure_expr.Var ty var
expr_step (code_expr.ConstBool b) = pure_expr.ConstBool b
expr_step (code_expr.ConstInt ty n) = pure_expr.ConstInt ty n
expr_step (code_expr.ConstPrim ty name) = pure_expr.ConstPrim ty name
expr_step (code_expr.Let ty bindings inner) = pure_expr.Let ty (bindings_of bindings) inner

-- one binding
abbrev pub bound_step : LetBinding-F Expr SeenBinding → SeenBinding
bound_step b = (b.var, b.ty, b.val)

-- an expression
abbrev pub expr : CodeExpr → Expr
expr = fold-Expr Expr SeenBinding expr_step bound_step

-- a condition
abbrev pub iflet : CodeIfLet → IfLet
iflet c = record { lhs = pattern c.lhs; rhs = expr c.rhs }

-- a rule
abbrev pub rule : CodeRule → Rule
rule r = record { id = r.id; root_term = r.root_term; args = map pattern r.args; iflets = map iflet r.iflets; rhs = expr r.rhs; prio = r.prio; pos = r.pos; name = r.name }

-- the environment of the types and the terms
abbrev pub environment : TypeEnv → TermEnv → Environment
environment types terms = record { types = types; terms = terms.terms; rules = map rule terms.rules; converters = terms.converters }

-- rules behind references
abbrev pub rules : List (Bor CodeRule) → List Rule
rules rs = map (λ (r : Bor CodeRule). rule r.now) rs
