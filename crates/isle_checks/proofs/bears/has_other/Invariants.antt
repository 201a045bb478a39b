use Rattle.std.proofs.Common.{drop}
use Rattle.std.specs.Prelude.{◌↔◌}
use Rattle.isle_checks.specs.Bears.{HasOther}
use Rattle.isle_checks.proofs.bears.has_other.Given as goal

abbrev pub invariant-loop-x : goal.invariant-loop-x
invariant-loop-x l = HasOther (drop l.x-index l.constraints) l.binding l.constraint ↔ HasOther l.constraints l.binding l.constraint
