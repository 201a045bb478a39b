use Rattle.std.proofs.Common.{drop}
use Rattle.std.specs.Prelude.{◌↔◌}
use Rattle.isle_tree.specs.Views.{stmt, body, arms}
use Rattle.isle_tree.specs.WellFormed.{IsStmt, IsBody, AreArms}
use Rattle.isle_judging.proofs.shapes.+shapes.Given as goal

abbrev pub invariant-is_stmt-loop-arm : goal.invariant-is_stmt-loop-arm
invariant-is_stmt-loop-arm l = AreArms (arms (drop l.arm-index l.arm-items)) ↔ IsStmt (stmt l.fn.s)

abbrev pub invariant-is_body-loop-s : goal.invariant-is_body-loop-s
invariant-is_body-loop-s l = IsBody (body (drop l.s-index l.stmts)) ↔ IsBody (body l.stmts)
