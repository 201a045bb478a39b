use Rattle.std.proofs.Common.{drop}
use Rattle.isle_core.specs.declared.rule_sets.Constraint.{Constraint}
use Rattle.isle_checks.specs.Bears.{IsAmong}
use Rattle.isle_checks.proofs.bears.first_on.Given as goal

abbrev pub invariant-loop-x : goal.invariant-loop-x
invariant-loop-x l = (c : Constraint) → IsAmong (drop l.x-index l.constraints) (l.binding, c) → IsAmong l.constraints (l.binding, c)
