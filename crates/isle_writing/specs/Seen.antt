-- What contracts see of the variables of a `let`.
use Rattle.isle_ast.specs.declared.tree.AstLet.{AstLet}
use Rattle.isle_ast.specs.declared.tree.AstExpr.TheFolds.{fold-AstLet}
use Rattle.isle_ast.specs.Tree.{Expr}
use Rattle.isle_ast.specs.Views.{SeenBinding, expr_step, bound_step}

-- a variable of a `let`
abbrev pub bound : AstLet → SeenBinding
bound = fold-AstLet Expr SeenBinding expr_step bound_step
