use Rattle.std.proofs.Common.{drop}
use Rattle.std.specs.Prelude.{◌↔◌}
use Rattle.isle_checks.specs.Priorities.{HavePriority}
use Rattle.isle_checks.proofs.priorities.have_priority.Given as goal

abbrev pub invariant-loop-placed : goal.invariant-loop-placed
invariant-loop-placed l = HavePriority l.prio (drop l.placed-index l.group) ↔ HavePriority l.prio l.group
