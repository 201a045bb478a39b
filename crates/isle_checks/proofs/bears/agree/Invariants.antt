use Rattle.std.proofs.Common.{drop}
use Rattle.std.specs.Prelude.{◌↔◌}
use Rattle.isle_checks.specs.Bears.{Agree}
use Rattle.isle_checks.proofs.bears.agree.Given as goal

abbrev pub invariant-loop-x : goal.invariant-loop-x
invariant-loop-x l = Agree (drop l.x-index l.one) l.other ↔ Agree l.one l.other
