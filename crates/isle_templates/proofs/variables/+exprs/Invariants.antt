use Rattle.std.proofs.Common.{◌≡◌, fold, map}
use Rattle.std.specs.Prelude.{drop}
use Rattle.isle_core.specs.RuleViews.{expr, exprs_of, bindings_of}
use Rattle.isle_templates.specs.CodeBinding.{binding}
use Rattle.isle_templates.specs.Renumbered.{joined, all_bound_in, bindings_bound_in}
use Rattle.isle_templates.proofs.variables.+exprs.Given as goal

abbrev pub invariant-join_exprs-loop-e : goal.invariant-join_exprs-loop-e
invariant-join_exprs-loop-e l = fold joined l.fn.order (all_bound_in (exprs_of (map expr l.fn.args))) ≡ fold joined l.order (all_bound_in (exprs_of (map expr (drop l.e-index l.fn.args))))

abbrev pub invariant-join_bindings-loop-b : goal.invariant-join_bindings-loop-b
invariant-join_bindings-loop-b l = fold joined l.fn.order (bindings_bound_in (bindings_of (map binding l.fn.bindings))) ≡ fold joined l.order (bindings_bound_in (bindings_of (map binding (drop l.b-index l.fn.bindings))))
