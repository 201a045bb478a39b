use Rattle.isle_ast.specs.Views.{defs as seen}
use Rattle.isle_sema.proofs.LetSteps.{AreLetsMade}
use Rattle.isle_sema.proofs.Steps.{AreExprsMade}
use Rattle.isle_sema.proofs.elaborated_exprs.+exprs.Given as goal

abbrev pub invariant-exprs_at-loop-index : goal.invariant-exprs_at-loop-index
invariant-exprs_at-loop-index l = AreExprsMade (seen l.known) l.types l.es l.index l.fn.vars l.vars l.fn.judged.rows l.judged.rows l.typed.items l.complete

abbrev pub invariant-lets_at-loop-l : goal.invariant-lets_at-loop-l
invariant-lets_at-loop-l l = AreLetsMade (seen l.known) l.lets l.l-index l.fn.vars l.vars l.fn.judged.rows l.judged.rows l.typed.items l.complete
