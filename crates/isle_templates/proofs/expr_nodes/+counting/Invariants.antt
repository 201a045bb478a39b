use Rattle.std.proofs.Common.{◌≡◌, ◌≤◌, ◌+◌, ◌-◌, ◌^◌, map, min}
use Rattle.std.specs.Prelude.{drop}
use Rattle.isle_core.specs.RuleViews.{expr, exprs_of, bindings_of}
use Rattle.isle_templates.specs.CodeBinding.{binding}
use Rattle.isle_templates.specs.NodeCount.{exprs_nodes, bindings_nodes}
use Rattle.isle_templates.proofs.expr_nodes.+counting.Given as goal

abbrev pub invariant-exprs_nodes-loop-e : goal.invariant-exprs_nodes-loop-e
invariant-exprs_nodes-loop-e l = record {
  counted : min (l.nodes + exprs_nodes (exprs_of (map expr (drop l.e-index l.fn.args)))) (2 ^ 64 - 1) ≡ min (exprs_nodes (exprs_of (map expr l.fn.args))) (2 ^ 64 - 1);
  fits : l.nodes ≤ 2 ^ 64 - 1;
}

abbrev pub invariant-bindings_nodes-loop-b : goal.invariant-bindings_nodes-loop-b
invariant-bindings_nodes-loop-b l = record {
  counted : min (l.nodes + bindings_nodes (bindings_of (map binding (drop l.b-index l.fn.bindings)))) (2 ^ 64 - 1) ≡ min (bindings_nodes (bindings_of (map binding l.fn.bindings))) (2 ^ 64 - 1);
  fits : l.nodes ≤ 2 ^ 64 - 1;
}
