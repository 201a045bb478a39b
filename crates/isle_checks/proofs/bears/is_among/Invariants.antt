use Rattle.std.proofs.Common.{drop}
use Rattle.std.specs.Prelude.{◌↔◌}
use Rattle.isle_checks.specs.Bears.{IsAmong}
use Rattle.isle_checks.proofs.bears.is_among.Given as goal

abbrev pub invariant-loop-x : goal.invariant-loop-x
invariant-loop-x l = IsAmong (drop l.x-index l.constraints) l.y ↔ IsAmong l.constraints l.y
