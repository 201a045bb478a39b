-- What contracts see of each expression, also of a `let`.
use Rattle.std.proofs.Common.{◌≡◌, List, map, sym, ap, ◌∙◌}
use Rattle.isle_base.specs.declared.ids.TypeId.{TypeId}
use Rattle.isle_core.specs.declared.rules.Expr.{Expr as CodeExpr}
use Rattle.isle_core.specs.declared.rules.Expr.TheVariants as code_expr
use Rattle.isle_core.specs.declared.rules.Expr.TheFolds.{fold-roll-Expr}
use Rattle.isle_core.specs.declared.rules.LetBinding.{LetBinding}
use Rattle.isle_core.specs.Expr as pure
use Rattle.isle_core.specs.Expr.{Expr}
use Rattle.isle_core.specs.RuleViews.{SeenBinding, bindings_of, expr_step, bound_step, expr}
use Rattle.isle_core.proofs.SeesRules.{expr-term, expr-var, expr-bool, expr-int, expr-prim}
use Rattle.isle_templates.specs.CodeBinding.{binding}

pub expr-let : (ty : TypeId) (bs : List LetBinding) (e : CodeExpr) → expr (code_expr.Let ty bs e) ≡ pure.Let ty (bindings_of (map binding bs)) (expr e)
expr-let ty bs e = ap expr (sym (code_expr.rolls-Let ty bs e)) ∙ fold-roll-Expr Expr SeenBinding expr_step bound_step _

pub ruleset sees = (expr-term, expr-var, expr-bool, expr-int, expr-prim, expr-let)
