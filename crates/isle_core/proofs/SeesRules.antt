-- What contracts see of each pattern and expression.
use Rattle.std.proofs.Common.{◌≡◌, ℤ, List, Bool, map, sym, ap, ◌∙◌}
use Rattle.isle_base.specs.declared.ids.TypeId.{TypeId}
use Rattle.isle_base.specs.declared.ids.TermId.{TermId}
use Rattle.isle_base.specs.declared.ids.VarId.{VarId}
use Rattle.isle_base.specs.declared.ids.Sym.{Sym}
use Rattle.isle_core.specs.declared.rules.Pattern.{Pattern as CodePattern}
use Rattle.isle_core.specs.declared.rules.Pattern.TheVariants as code_pattern
use Rattle.isle_core.specs.declared.rules.Pattern.TheFolds.{fold-roll-Pattern}
use Rattle.isle_core.specs.declared.rules.Expr.{Expr as CodeExpr}
use Rattle.isle_core.specs.declared.rules.Expr.TheVariants as code_expr
use Rattle.isle_core.specs.declared.rules.Expr.TheFolds.{fold-roll-Expr}
use Rattle.isle_core.specs.Pattern as pure_pattern
use Rattle.isle_core.specs.Pattern.{Pattern}
use Rattle.isle_core.specs.Expr as pure_expr
use Rattle.isle_core.specs.Expr.{Expr}
use Rattle.isle_core.specs.RuleViews.{patterns_of, pattern_step, pattern, exprs_of, expr_step, SeenBinding, bound_step, expr}

pub pattern-bind : (ty : TypeId) (x : VarId) (p : CodePattern) → pattern (code_pattern.BindPattern ty x p) ≡ pure_pattern.BindPattern ty x (pattern p)
pattern-bind ty x p = ap pattern (sym (code_pattern.rolls-BindPattern ty x p)) ∙ fold-roll-Pattern Pattern pattern_step _

pub pattern-var : (ty : TypeId) (x : VarId) → pattern (code_pattern.Var ty x) ≡ pure_pattern.Var ty x
pattern-var ty x = ap pattern (sym (code_pattern.rolls-Var ty x)) ∙ fold-roll-Pattern Pattern pattern_step _

pub pattern-bool : (b : Bool) → pattern (code_pattern.ConstBool b) ≡ pure_pattern.ConstBool b
pattern-bool b = ap pattern (sym (code_pattern.rolls-ConstBool b)) ∙ fold-roll-Pattern Pattern pattern_step _

pub pattern-int : (ty : TypeId) (n : ℤ) → pattern (code_pattern.ConstInt ty n) ≡ pure_pattern.ConstInt ty n
pattern-int ty n = ap pattern (sym (code_pattern.rolls-ConstInt ty n)) ∙ fold-roll-Pattern Pattern pattern_step _

pub pattern-prim : (ty : TypeId) (name : Sym) → pattern (code_pattern.ConstPrim ty name) ≡ pure_pattern.ConstPrim ty name
pattern-prim ty name = ap pattern (sym (code_pattern.rolls-ConstPrim ty name)) ∙ fold-roll-Pattern Pattern pattern_step _

pub pattern-term : (ty : TypeId) (term : TermId) (ps : List CodePattern) → pattern (code_pattern.Term ty term ps) ≡ pure_pattern.Term ty term (patterns_of (map pattern ps))
pattern-term ty term ps = ap pattern (sym (code_pattern.rolls-Term ty term ps)) ∙ fold-roll-Pattern Pattern pattern_step _

pub pattern-wildcard : (ty : TypeId) → pattern (code_pattern.Wildcard ty) ≡ pure_pattern.Wildcard ty
pattern-wildcard ty = ap pattern (sym (code_pattern.rolls-Wildcard ty)) ∙ fold-roll-Pattern Pattern pattern_step _

pub pattern-and : (ty : TypeId) (ps : List CodePattern) → pattern (code_pattern.And ty ps) ≡ pure_pattern.And ty (patterns_of (map pattern ps))
pattern-and ty ps = ap pattern (sym (code_pattern.rolls-And ty ps)) ∙ fold-roll-Pattern Pattern pattern_step _

pub expr-term : (ty : TypeId) (term : TermId) (es : List CodeExpr) → expr (code_expr.Term ty term es) ≡ pure_expr.Term ty term (exprs_of (map expr es))
expr-term ty term es = ap expr (sym (code_expr.rolls-Term ty term es)) ∙ fold-roll-Expr Expr SeenBinding expr_step bound_step _

pub expr-var : (ty : TypeId) (x : VarId) → expr (code_expr.Var ty x) ≡ pure_expr.Var ty x
expr-var ty x = ap expr (sym (code_expr.rolls-Var ty x)) ∙ fold-roll-Expr Expr SeenBinding expr_step bound_step _

pub expr-bool : (b : Bool) → expr (code_expr.ConstBool b) ≡ pure_expr.ConstBool b
expr-bool b = ap expr (sym (code_expr.rolls-ConstBool b)) ∙ fold-roll-Expr Expr SeenBinding expr_step bound_step _

pub expr-int : (ty : TypeId) (n : ℤ) → expr (code_expr.ConstInt ty n) ≡ pure_expr.ConstInt ty n
expr-int ty n = ap expr (sym (code_expr.rolls-ConstInt ty n)) ∙ fold-roll-Expr Expr SeenBinding expr_step bound_step _

pub expr-prim : (ty : TypeId) (name : Sym) → expr (code_expr.ConstPrim ty name) ≡ pure_expr.ConstPrim ty name
expr-prim ty name = ap expr (sym (code_expr.rolls-ConstPrim ty name)) ∙ fold-roll-Expr Expr SeenBinding expr_step bound_step _

pub ruleset sees = (pattern-bind, pattern-var, pattern-bool, pattern-int, pattern-prim, pattern-term, pattern-wildcard, pattern-and, expr-term, expr-var, expr-bool, expr-int, expr-prim)
