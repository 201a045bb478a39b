use Rattle.std.proofs.Common.{◌≡◌, map, take}
use Rattle.isle_core.specs.RuleViews.{expr}
use Rattle.isle_templates.specs.CodeBinding.{binding, binding_renamed}
use Rattle.isle_templates.specs.Renumbered.{expr_renamed}
use Rattle.isle_templates.proofs.renaming.+exprs.Given as goal

abbrev pub invariant-exprs_renamed-loop-e : goal.invariant-exprs_renamed-loop-e
invariant-exprs_renamed-loop-e l = map expr l.found.items ≡ map (expr_renamed l.order) (map expr (take l.e-index l.args))

abbrev pub invariant-bindings_renamed-loop-b : goal.invariant-bindings_renamed-loop-b
invariant-bindings_renamed-loop-b l = map binding l.found.items ≡ map (binding_renamed l.order) (map binding (take l.b-index l.bindings))
