use Rattle.std.proofs.Common.{drop}
use Rattle.isle_run_inputs.specs.AskedFunctions.{FindsAsked}
use Rattle.isle_run_inputs.proofs.asked.AskedFunctions.new.Given as goal

abbrev pub invariant-loop-index : goal.invariant-loop-index
invariant-loop-index l = FindsAsked l.fn.typeenv (drop l.index l.fn.terms) l.found
