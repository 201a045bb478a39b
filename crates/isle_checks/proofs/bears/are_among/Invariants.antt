use Rattle.std.proofs.Common.{drop}
use Rattle.std.specs.Prelude.{◌↔◌}
use Rattle.isle_checks.specs.Bears.{AreAmong}
use Rattle.isle_checks.proofs.bears.are_among.Given as goal

abbrev pub invariant-loop-x : goal.invariant-loop-x
invariant-loop-x l = AreAmong (drop l.x-index l.some) l.all ↔ AreAmong l.some l.all
