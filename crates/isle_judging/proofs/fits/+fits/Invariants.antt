use Rattle.std.proofs.Common.{drop}
use Rattle.std.specs.Prelude.{◌↔◌}
use Rattle.isle_tree.specs.Views.{stmt, body, arms}
use Rattle.isle_tree.specs.WellFormed.{FitsStmt, FitsBody, FitsArms}
use Rattle.isle_judging.proofs.fits.+fits.Given as goal

abbrev pub invariant-fits_stmt-loop-arm : goal.invariant-fits_stmt-loop-arm
invariant-fits_stmt-loop-arm l = FitsArms l.kind l.closed (arms (drop l.arm-index l.arm-items)) ↔ FitsStmt l.kind l.closed (stmt l.fn.s)

abbrev pub invariant-fits_body-loop-s : goal.invariant-fits_body-loop-s
invariant-fits_body-loop-s l = FitsBody l.kind l.closed (body (drop l.s-index l.stmts)) ↔ FitsBody l.kind l.closed (body l.stmts)
