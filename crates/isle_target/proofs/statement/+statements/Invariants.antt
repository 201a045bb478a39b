use Rattle.std.proofs.Common.{◌≡◌, ◌++◌, drop}
use Rattle.isle_tree.specs.Views.{stmt, body, arms}
use Rattle.isle_target.specs.StatementSpelling.{stmt_tokens, body_tokens, arms_tokens}
use Rattle.isle_tree.specs.WellFormed.{IsBody, AreArms}
use Rattle.isle_target.proofs.statement.+statements.Given as goal

abbrev pub invariant-print_stmt-loop-arm : goal.invariant-print_stmt-loop-arm
invariant-print_stmt-loop-arm l =
    AreArms (arms (drop l.arm-index l.arm-items)) × (l.out ++ arms_tokens (arms (drop l.arm-index l.arm-items)) ≡ l.fn.out ++ stmt_tokens (stmt l.fn.s))

abbrev pub invariant-print_body-loop-s : goal.invariant-print_body-loop-s
invariant-print_body-loop-s l =
    IsBody (body (drop l.s-index l.stmts)) × (l.out ++ body_tokens (body (drop l.s-index l.stmts)) ≡ l.fn.out ++ body_tokens (body l.stmts))
