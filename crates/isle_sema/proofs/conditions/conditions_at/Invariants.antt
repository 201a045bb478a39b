use Rattle.std.proofs.Common.{map}
use Rattle.std.specs.Prelude.{drop}
use Rattle.isle_ast.specs.Views.{iflet, defs as seen}
use Rattle.isle_terms.specs.Whole.{whole_of}
use Rattle.isle_sema.specs.RulePass.{conditions_pass}
use Rattle.isle_sema.proofs.ConditionSteps.{AreConditionsMade}
use Rattle.isle_sema.proofs.conditions.conditions_at.Given as goal

abbrev pub invariant-loop-c : goal.invariant-loop-c
invariant-loop-c l =
    AreConditionsMade (whole_of (seen l.known)) (conditions_pass (whole_of (seen l.known)) l.fn.vars (map iflet l.given)) (conditions_pass (whole_of (seen l.known)) l.vars (map iflet (drop l.c-index l.given))) l.fn.judged.rows l.judged.rows l.made.items l.complete
