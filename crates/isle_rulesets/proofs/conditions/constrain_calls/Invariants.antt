use Rattle.std.proofs.Common.{take}
use Rattle.isle_rulesets.specs.Conditions.{FindsAll}
use Rattle.isle_rulesets.proofs.conditions.constrain_calls.Given as goal

abbrev pub invariant-loop-call : goal.invariant-loop-call
invariant-loop-call l = FindsAll l.fn.tests l.tests (take l.call-index l.calls)
