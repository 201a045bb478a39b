use Rattle.isle_checks.proofs.ToldTerms.{AreToldBelow}
use Rattle.isle_checks.proofs.recursion.errors_of.Given as goal

abbrev pub invariant-loop-place : goal.invariant-loop-place
invariant-loop-place l = AreToldBelow l.terms l.sets l.place l.errors.items
