-- What contracts see of the variables of a `let`.
use Rattle.isle_ast.specs.declared.tree.AstLet.{AstLet}
use Rattle.isle_ast.specs.declared.tree.AstExpr.TheFolds.{fold-AstLet}
use Rattle.isle_ast.specs.Tree.{Expr}
use Rattle.isle_ast.specs.Views.{SeenBinding, expr_step, bound_step}

-- a variable with its type and its value
abbrev pub binding : AstLet → SeenBinding
binding = fold-AstLet Expr SeenBinding expr_step bound_step
