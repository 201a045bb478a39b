use Rattle.std.proofs.Common.{◌≡◌, fold, map}
use Rattle.std.specs.Prelude.{drop, flat_map}
use Rattle.isle_core.specs.RuleViews.{iflet}
use Rattle.isle_templates.specs.Renumbered.{joined, condition_variables}
use Rattle.isle_templates.proofs.variables.join_iflets.Given as goal

abbrev pub invariant-loop-condition : goal.invariant-loop-condition
invariant-loop-condition l = fold joined l.fn.order (flat_map condition_variables (map iflet l.fn.iflets)) ≡ fold joined l.order (flat_map condition_variables (map iflet (drop l.condition-index l.fn.iflets)))
