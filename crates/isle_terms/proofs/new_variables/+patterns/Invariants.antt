use Rattle.std.proofs.Common.{◌≡◌, fold, map}
use Rattle.std.specs.Prelude.{drop}
use Rattle.isle_ast.specs.Views.{pattern, patterns_of}
use Rattle.isle_terms.specs.NewVariables.{all_variables_in, joined}
use Rattle.isle_terms.proofs.new_variables.+patterns.Given as goal

abbrev pub invariant-join_patterns-loop-p : goal.invariant-join_patterns-loop-p
invariant-join_patterns-loop-p l = fold (joined l.vars) l.fn.new (all_variables_in (patterns_of (map pattern l.fn.patterns))) ≡ fold (joined l.vars) l.new (all_variables_in (patterns_of (map pattern (drop l.p-index l.fn.patterns))))
