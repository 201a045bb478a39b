use Rattle.std.proofs.Common.{◌≡◌, fold, map}
use Rattle.std.specs.Prelude.{drop}
use Rattle.isle_core.specs.RuleViews.{pattern, patterns_of}
use Rattle.isle_templates.specs.Renumbered.{joined, patterns_variables}
use Rattle.isle_templates.proofs.variables.+patterns.Given as goal

abbrev pub invariant-join_patterns-loop-p : goal.invariant-join_patterns-loop-p
invariant-join_patterns-loop-p l = fold joined l.fn.order (patterns_variables (patterns_of (map pattern l.fn.parts))) ≡ fold joined l.order (patterns_variables (patterns_of (map pattern (drop l.p-index l.fn.parts))))
