use Rattle.isle_judging.proofs.Functions.{Left}
use Rattle.isle_judging.proofs.well_formedness.are_functions.Given as goal

abbrev pub invariant-loop-f : goal.invariant-loop-f
invariant-loop-f l = Left l.callees l.fns l.f-index
