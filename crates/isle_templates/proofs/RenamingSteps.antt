-- Steps in which code numbers variables anew.
use Rattle.std.proofs.Common.{◌≡◌, ℕ, List, [], ◌∷◌, map, refl, ap}
use Rattle.isle_core.specs.Pattern.{Pattern, APattern}
use Rattle.isle_core.specs.Expr.{Expr, AnExpr, ABinding}
use Rattle.isle_core.specs.RuleViews.{patterns_of, exprs_of, SeenBinding, bindings_of}
use Rattle.isle_templates.specs.Renumbered.{renamed, all_renamed, new_number, expr_renamed, exprs_renamed, bindings_renamed}
use Rattle.isle_templates.specs.CodeBinding.{binding_renamed}

-- patterns one by one
pub patterns_each : (order : List ℕ) (ps : List Pattern) → all_renamed order (patterns_of ps) ≡ patterns_of (map (renamed order) ps)
patterns_each order [] = refl
patterns_each order (p ∷ ps) = ap (APattern (renamed order p)) (patterns_each order ps)

-- expressions one by one
pub exprs_each : (order : List ℕ) (es : List Expr) → exprs_renamed order (exprs_of es) ≡ exprs_of (map (expr_renamed order) es)
exprs_each order [] = refl
exprs_each order (e ∷ es) = ap (AnExpr (expr_renamed order e)) (exprs_each order es)

-- variables of a `let` one by one
pub bindings_each : (order : List ℕ) (bs : List SeenBinding) → bindings_renamed order (bindings_of bs) ≡ bindings_of (map (binding_renamed order) bs)
bindings_each order [] = refl
bindings_each order (b ∷ bs) = ap (ABinding (new_number order b.0) b.1 (expr_renamed order b.2)) (bindings_each order bs)
