use Rattle.isle_tree.specs.Views.{body}
use Rattle.isle_target.specs.StatementSpelling.{close, loop_head, split_head, split_end, if_eq_head, if_let_head, body_tokens}
use Rattle.isle_target.proofs.PrintedStatements.{closed, test_tokens, if_let_tokens, loop_tokens, split_tokens, match_begun}
use Rattle.isle_target.proofs.statement.+statements.Goals as goal

pub print_stmt-loop-arm-init : goal.print_stmt-loop-arm-init
print_stmt-loop-arm-init t c =
    match_begun c.in-Match.read c.in-Match.given c.as_slice-arm-items.result.now c.args.s.now c.args.out.now c.print_match.new.out c.indent.new.self c.in-Match.is c.as_slice-arm-items.ensures c.requires c.in_ok-print_match-in-Match.ensures c.indent.ensures

pub print_stmt-returns-in_ok-print_body-in-IfEq : goal.print_stmt-returns-in_ok-print_body-in-IfEq
print_stmt-returns-in_ok-print_body-in-IfEq t c =
    closed c.print_close.result c.args.out.now (if_eq_head c.in-IfEq.a c.in-IfEq.b) (body_tokens (body c.as_slice.result.now)) close c.print_if_eq.new.out c.print_body.new.out c.print_close.new.out _ c.in_ok-print_if_eq-in-IfEq.ensures c.in_ok-print_body-in-IfEq.ensures c.print_close.ensures
    (test_tokens c.in-IfEq.a c.in-IfEq.b c.in-IfEq.inside c.as_slice.result.now c.args.s.now c.in-IfEq.is c.as_slice.ensures)

pub print_stmt-returns-in_ok-print_body-in-IfLet : goal.print_stmt-returns-in_ok-print_body-in-IfLet
print_stmt-returns-in_ok-print_body-in-IfLet t c =
    closed c.print_close-in-IfLet.result c.args.out.now (if_let_head c.in-IfLet.pat c.in-IfLet.read) (body_tokens (body c.as_slice-in-IfLet.result.now)) close c.print_if_let.new.out c.print_body-in-IfLet.new.out c.print_close-in-IfLet.new.out _ c.in_ok-print_if_let-in-IfLet.ensures c.in_ok-print_body-in-IfLet.ensures c.print_close-in-IfLet.ensures
    (if_let_tokens c.in-IfLet.pat c.in-IfLet.read c.in-IfLet.inside c.as_slice-in-IfLet.result.now c.args.s.now c.in-IfLet.is c.as_slice-in-IfLet.ensures)

pub print_stmt-returns-in_ok-print_body-in-Loop : goal.print_stmt-returns-in_ok-print_body-in-Loop
print_stmt-returns-in_ok-print_body-in-Loop t c =
    closed c.print_close-in-Loop.result c.args.out.now (loop_head c.in-Loop.list c.in-Loop.item) (body_tokens (body c.as_slice-in-Loop.result.now)) close c.print_loop_head.new.out c.print_body-in-Loop.new.out c.print_close-in-Loop.new.out _ c.in_ok-print_loop_head-in-Loop.ensures c.in_ok-print_body-in-Loop.ensures c.print_close-in-Loop.ensures
    (loop_tokens c.in-Loop.list c.in-Loop.item c.in-Loop.inside c.as_slice-in-Loop.result.now c.args.s.now c.in-Loop.is c.as_slice-in-Loop.ensures)

pub print_stmt-returns-in_ok-print_body-in-Split : goal.print_stmt-returns-in_ok-print_body-in-Split
print_stmt-returns-in_ok-print_body-in-Split t c =
    closed c.print_split_end.result c.args.out.now split_head (body_tokens (body c.as_slice-in-Split.result.now)) (split_end c.in-Split.inside) c.print_split_head.new.out c.print_body-in-Split.new.out c.print_split_end.new.out _ c.in_ok-print_split_head-in-Split.ensures c.in_ok-print_body-in-Split.ensures c.print_split_end.ensures
    (split_tokens c.in-Split.split c.as_slice-in-Split.result.now c.in-Split.inside c.args.s.now c.in-Split.is c.as_slice-in-Split.ensures)
