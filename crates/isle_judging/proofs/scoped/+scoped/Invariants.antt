use Rattle.std.proofs.Common.{◌≡◌, ◌++◌, drop}
use Rattle.std.specs.Prelude.{◌↔◌}
use Rattle.isle_tree.specs.Views.{stmt, body, arms}
use Rattle.isle_tree.specs.WellFormed.{Locals, read_holds, IsStmtScoped, IsBodyScoped, AreArmsScoped}
use Rattle.isle_judging.proofs.scoped.+scoped.Given as goal

abbrev pub invariant-is_stmt_scoped-loop-arm : goal.invariant-is_stmt_scoped-loop-arm
invariant-is_stmt_scoped-loop-arm l =
    (AreArmsScoped l.callees l.kind l.params l.bound (read_holds l.params l.bound l.read) (arms (drop l.arm-index l.arm-items)) ↔ IsStmtScoped l.callees l.kind l.params l.fn.bound (stmt l.fn.s))
    × (l.bound ≡ l.fn.bound)

abbrev pub invariant-is_body_scoped-loop-s : goal.invariant-is_body_scoped-loop-s
invariant-is_body_scoped-loop-s l =
    (IsBodyScoped l.callees l.kind l.params l.bound (body (drop l.s-index l.stmts)) ↔ IsBodyScoped l.callees l.kind l.params l.fn.bound (body l.stmts))
    × ((more : Locals) × (l.bound ≡ l.fn.bound ++ more))
