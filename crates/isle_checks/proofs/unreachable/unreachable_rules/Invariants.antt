use Rattle.std.proofs.Common.{take}
use Rattle.isle_checks.specs.Errors.{AreUnreachable}
use Rattle.isle_checks.proofs.unreachable.unreachable_rules.Given as goal

abbrev pub invariant-loop-rule : goal.invariant-loop-rule
invariant-loop-rule l = AreUnreachable (take l.rule-index l.rules) l.found.items
