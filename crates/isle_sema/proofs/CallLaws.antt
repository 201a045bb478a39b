-- How many arguments there are.
use Rattle.std.proofs.Common.{◌≡◌, suc, List, [], ◌∷◌, length, map, refl, ap}
use Rattle.isle_ast.specs.declared.tree.AstExpr.{AstExpr}
use Rattle.isle_ast.specs.declared.tree.AstPattern.{AstPattern}
use Rattle.isle_ast.specs.Views.{pattern, patterns_of, expr, exprs_of}
use Rattle.isle_sema.specs.ExprPass.{count_of}
use Rattle.isle_sema.specs.PatternPass.{count_of as parts_of}

-- there are as many expressions as the code's list has
pub counted : (es : List AstExpr) → count_of (exprs_of (map expr es)) ≡ length es
counted [] = refl
counted (e ∷ es) = ap suc (counted es)

-- and as many patterns
pub parts_counted : (ps : List AstPattern) → parts_of (patterns_of (map pattern ps)) ≡ length ps
parts_counted [] = refl
parts_counted (p ∷ ps) = ap suc (parts_counted ps)
