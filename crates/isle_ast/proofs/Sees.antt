-- What contracts see of the variants of patterns and expressions.
use Rattle.std.proofs.Common.{◌≡◌, ℕ, List, Bool, map, sym, ap, ◌∙◌}
use Rattle.std.specs.Prelude.{ℤ}
use Rattle.isle_ast.specs.declared.tree.AstPattern.{AstPattern}
use Rattle.isle_ast.specs.declared.tree.AstPattern.TheVariants as code_pattern
use Rattle.isle_ast.specs.declared.tree.AstPattern.TheFolds.{fold-roll-AstPattern}
use Rattle.isle_ast.specs.declared.tree.AstExpr.{AstExpr}
use Rattle.isle_ast.specs.declared.tree.AstLet.{AstLet}
use Rattle.isle_ast.specs.declared.tree.AstExpr.TheVariants as code_expr
use Rattle.isle_ast.specs.declared.tree.AstExpr.TheFolds.{fold-roll-AstExpr, fold-AstLet, fold_out-AstLet}
use Rattle.isle_ast.specs.Tree as tree
use Rattle.isle_ast.specs.Tree.{Pattern, Expr}
use Rattle.isle_ast.specs.Views.{SeenBinding, patterns_of, pattern_step, pattern, exprs_of, lets_of, expr_step, bound_step, expr}

pub pattern-int : (n : ℤ) → pattern (code_pattern.Int n) ≡ tree.Int n
pattern-int n = ap pattern (sym (code_pattern.rolls-Int n)) ∙ fold-roll-AstPattern Pattern pattern_step _

pub pattern-truth : (b : Bool) → pattern (code_pattern.Bool b) ≡ tree.Truth b
pattern-truth b = ap pattern (sym (code_pattern.rolls-Bool b)) ∙ fold-roll-AstPattern Pattern pattern_step _

pub pattern-const : (name : List ℕ) → pattern (code_pattern.Const name) ≡ tree.Const name
pattern-const name = ap pattern (sym (code_pattern.rolls-Const name)) ∙ fold-roll-AstPattern Pattern pattern_step _

pub pattern-wildcard : pattern code_pattern.Wildcard ≡ tree.Wildcard
pattern-wildcard = ap pattern (sym code_pattern.rolls-Wildcard) ∙ fold-roll-AstPattern Pattern pattern_step _

pub pattern-var : (name : List ℕ) → pattern (code_pattern.Var name) ≡ tree.Var name
pattern-var name = ap pattern (sym (code_pattern.rolls-Var name)) ∙ fold-roll-AstPattern Pattern pattern_step _

pub pattern-bind : (name : List ℕ) (inner : AstPattern) → pattern (code_pattern.Bind name inner) ≡ tree.Bind name (pattern inner)
pattern-bind name inner = ap pattern (sym (code_pattern.rolls-Bind name inner)) ∙ fold-roll-AstPattern Pattern pattern_step _

pub pattern-and : (parts : List AstPattern) → pattern (code_pattern.And parts) ≡ tree.And (patterns_of (map pattern parts))
pattern-and parts = ap pattern (sym (code_pattern.rolls-And parts)) ∙ fold-roll-AstPattern Pattern pattern_step _

pub pattern-term : (name : List ℕ) (args : List AstPattern) → pattern (code_pattern.Term name args) ≡ tree.Term name (patterns_of (map pattern args))
pattern-term name args = ap pattern (sym (code_pattern.rolls-Term name args)) ∙ fold-roll-AstPattern Pattern pattern_step _

pub expr-number : (n : ℤ) → expr (code_expr.Int n) ≡ tree.Number n
expr-number n = ap expr (sym (code_expr.rolls-Int n)) ∙ fold-roll-AstExpr Expr SeenBinding expr_step bound_step _

pub expr-fact : (b : Bool) → expr (code_expr.Bool b) ≡ tree.Fact b
expr-fact b = ap expr (sym (code_expr.rolls-Bool b)) ∙ fold-roll-AstExpr Expr SeenBinding expr_step bound_step _

pub expr-constant : (name : List ℕ) → expr (code_expr.Const name) ≡ tree.Constant name
expr-constant name = ap expr (sym (code_expr.rolls-Const name)) ∙ fold-roll-AstExpr Expr SeenBinding expr_step bound_step _

pub expr-name : (name : List ℕ) → expr (code_expr.Var name) ≡ tree.Name name
expr-name name = ap expr (sym (code_expr.rolls-Var name)) ∙ fold-roll-AstExpr Expr SeenBinding expr_step bound_step _

pub expr-let : (lets : List AstLet) (inner : AstExpr) → expr (code_expr.Let lets inner) ≡ tree.Let (lets_of (map (fold-AstLet Expr SeenBinding expr_step bound_step) lets)) (expr inner)
expr-let lets inner = ap expr (sym (code_expr.rolls-Let lets inner)) ∙ fold-roll-AstExpr Expr SeenBinding expr_step bound_step _

pub expr-call : (name : List ℕ) (args : List AstExpr) → expr (code_expr.Term name args) ≡ tree.Call name (exprs_of (map expr args))
expr-call name args = ap expr (sym (code_expr.rolls-Term name args)) ∙ fold-roll-AstExpr Expr SeenBinding expr_step bound_step _

pub let-parts : (l : AstLet) → fold-AstLet Expr SeenBinding expr_step bound_step l ≡ (l.var, l.ty, expr l.val)
let-parts l = fold_out-AstLet Expr SeenBinding expr_step bound_step l

pub ruleset pattern_sees = (pattern-int, pattern-truth, pattern-const, pattern-wildcard, pattern-var, pattern-bind, pattern-and, pattern-term)

pub ruleset expr_sees = (expr-number, expr-fact, expr-constant, expr-name, expr-let, expr-call)
