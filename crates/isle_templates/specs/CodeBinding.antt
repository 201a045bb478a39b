-- What contracts see of the variables of a `let`.
use Rattle.std.specs.Prelude.{ℕ, List}
use Rattle.isle_core.specs.declared.rules.LetBinding.{LetBinding}
use Rattle.isle_core.specs.declared.rules.Expr.TheFolds.{fold-LetBinding}
use Rattle.isle_core.specs.Expr.{Expr}
use Rattle.isle_core.specs.RuleViews.{SeenBinding, expr_step, bound_step}
use Rattle.isle_templates.specs.Renumbered.{new_number, expr_renamed}

-- a variable with its type and its value
abbrev pub binding : LetBinding → SeenBinding
binding = fold-LetBinding Expr SeenBinding expr_step bound_step

-- one with new numbers
abbrev pub binding_renamed : List ℕ → SeenBinding → SeenBinding
binding_renamed order b = (new_number order b.0, b.1, expr_renamed order b.2)
